-- The first number below n that a test takes. `First f n p` says what it is; `first f n` is it. Contracts cite `first`, proofs its laws. Assumes nothing.
use Rattle.std.specs.Prelude.{Bool, true, false, cond, ◌≡◌, refl}
use Rattle.std.proofs.Common.{sym, ◌∙◌, le_antisymm, arith}
use Prim.Native.Nat.{ℕ, zero, suc, ◌+◌, ◌≤◌, ◌<◌}
use Rattle.std.proofs.Math.Decide.{dec_le}
use borrow.Author.Count.{below_more}
use Rattle.lists.specs.Contradiction.{contradiction}
use Rattle.lists.specs.First.{first_from, first, First}

module _ (f : ℕ → Bool) (n : ℕ) where
  here : (k : ℕ) → k ≤ n → ((j : ℕ) → j < k → f j ≡ false) → f k ≡ true → First f n k
  here k h b e = record { most = h; none = b; taken = λ _. e }

  by-test : (t : Bool) (k q : ℕ) → (t ≡ true → First f n k) → (t ≡ false → First f n q) → First f n (cond t k q)
  by-test true k q a b = a refl
  by-test false k q a b = b refl

  from_is : (m k : ℕ) → k + m ≡ n → ((j : ℕ) → j < k → f j ≡ false) → First f n (first_from f k m)
  unfolding first_from
  from_is zero k e b = record { most = omega arith; none = b; taken = λ h. absurd (omega arith) }
  from_is (suc m) k e b =
      by-test (f k) k _ (here k (omega arith) b) (λ t. from_is m (suc k) (omega arith) (λ j h. below_more _ k b t j (omega arith)))

  pub first-is : First f n (first f n)
  unfolding first
  first-is = from_is n 0 (omega arith) (λ j h. absurd (omega arith))

  -- the first is not behind another
  not_behind : {p q : ℕ} → First f n p → First f n q → Dec (p ≤ q) → p ≤ q
  not_behind P Q (yes h) = h
  not_behind {p} {q} P Q (no h) =
      contradiction (sym (P.none q (omega arith)) ∙ Q.taken (omega (arith, P.most)))

  -- and the only one: whatever finds it has found `first f n`
  pub first_of : {p : ℕ} → First f n p → p ≡ first f n
  first_of P = le_antisymm (not_behind P first-is (dec_le _ _)) (not_behind first-is P (dec_le _ _))
