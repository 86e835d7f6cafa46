-- A count of exactly one: which number it is, and that it is the only one. Assumes nothing.
use Rattle.std.specs.Prelude.{Bool, true, false, ◌≡◌, refl, ℕ, zero, suc, ◌+◌, ◌≤◌, ◌<◌}
use Rattle.std.proofs.Common.{sym, ap, ◌∙◌, not-suc-le-zero, arith}
use Rattle.std.proofs.Math.Decide.{dec_lt, ℕ_discrete}
use Rattle.lists.specs.First.{first}
use Rattle.lists.proofs.First.{first-is}
use Rattle.lists.specs.Number.{one, number}
use Rattle.lists.proofs.NumberLaws.{number-none}

-- where any is counted, the first is below the end
pub first_counted : (n : ℕ) (test : ℕ → Bool) → 1 ≤ number n test → first test n < n
first_counted n test h = go (dec_lt (first test n) n)
  where
    f : (k : ℕ) → k < first test n → test k ≡ false
    f = (first-is test n).none

    go : Dec (first test n < n) → first test n < n
    go (yes l) = l
    go (no l) = absurd (omega (arith, number-none n test (λ k b. f k (omega arith))))

-- a number that passes is counted
pub counted : (n : ℕ) (test : ℕ → Bool) (k : ℕ) → k < n → test k ≡ true → 1 ≤ number n test
unfolding number
counted zero test k h e = absurd (not-suc-le-zero h)
counted (suc n) test k h e = go (ℕ_discrete k n) (λ l. counted n test k l e)
  where
    go : Dec (k ≡ n) → (k < n → 1 ≤ number n test) → 1 ≤ number n test + one (test n)
    go (yes q) f = let z : one (test n) ≡ 1 = ap (λ (m : ℕ). one (test m)) (sym q) ∙ ap one e in omega arith
    go (no d) f = omega (arith, f (omega arith))

-- and two that pass are counted twice
pub counted-twice : (n : ℕ) (test : ℕ → Bool) (j k : ℕ) → j < k → k < n → test j ≡ true → test k ≡ true → 2 ≤ number n test
unfolding number
counted-twice zero test j k l h e f = absurd (not-suc-le-zero h)
counted-twice (suc n) test j k l h e f = go (ℕ_discrete k n) (λ b. counted-twice n test j k l b e f) (λ b. counted n test j b e)
  where
    go : Dec (k ≡ n) → (k < n → 2 ≤ number n test) → (j < n → 1 ≤ number n test) → 2 ≤ number n test + one (test n)
    go (yes q) g c = let z : one (test n) ≡ 1 = ap (λ (m : ℕ). one (test m)) (sym q) ∙ ap one f in omega (arith, c (omega arith))
    go (no d) g c = omega (arith, g (omega arith))

-- a count of one counts no second
pub only_one : (n : ℕ) (test : ℕ → Bool) → number n test ≡ 1 → (j k : ℕ) → j < n → k < n → test j ≡ true → test k ≡ true → j ≡ k
only_one n test o j k h l e f = go (dec_lt j k) (dec_lt k j)
  where
    go : Dec (j < k) → Dec (k < j) → j ≡ k
    go (yes b) c = absurd (omega (arith, counted-twice n test j k b l e f))
    go (no b) (yes c) = absurd (omega (arith, counted-twice n test k j c h f e))
    go (no b) (no c) = omega arith

-- and where one passes and no other, the count is one
pub one-counted : (n : ℕ) (test : ℕ → Bool) (k : ℕ) → k < n → test k ≡ true → ((j : ℕ) → j < n → test j ≡ true → j ≡ k) → number n test ≡ 1
unfolding number
one-counted zero test k h e f = absurd (not-suc-le-zero h)
one-counted (suc n) test k h e f = go (ℕ_discrete k n) (λ l. one-counted n test k l e (λ j b. f j (omega arith)))
  where
    unless : (b : Bool) (j : ℕ) → (b ≡ true → j ≡ k) → (j ≡ k → ⊥) → b ≡ false
    unless false j p d = refl
    unless true j p d = absurd (d (p refl))

    go : Dec (k ≡ n) → (k < n → number n test ≡ 1) → number n test + one (test n) ≡ 1
    go (yes q) g =
        let z : one (test n) ≡ 1 = ap (λ (m : ℕ). one (test m)) (sym q) ∙ ap one e in
        omega (arith, number-none n test (λ j b. unless (test j) j (f j (omega arith)) (λ p. omega arith)))
    go (no d) g =
        let z : one (test n) ≡ 0 = ap one (unless (test n) n (f n (omega arith)) (λ p. d (sym p))) in
        omega (arith, g (omega arith))

-- and where all pass, all are counted
pub all-counted : (n : ℕ) (test : ℕ → Bool) → ((k : ℕ) → k < n → test k ≡ true) → number n test ≡ n
unfolding number
all-counted zero test h = refl
all-counted (suc n) test h =
    let z : one (test n) ≡ 1 = ap one (h n (omega arith)) in
    omega (arith, all-counted n test (λ k l. h k (omega arith)))
