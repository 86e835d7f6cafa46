-- The first number below n that a test takes. `First f n p` says what it is; `first f n` is it. Contracts cite `first`, proofs its laws. Assumes nothing.
use Rattle.std.specs.Prelude.{Bool, true, false, cond, ◌≡◌, refl}
use Rattle.std.proofs.Common.{sym, ◌∙◌, le_antisymm, arith}
use Prim.Native.Nat.{ℕ, zero, suc, ◌+◌, ◌≤◌, ◌<◌}
use Rattle.std.proofs.Math.Decide.{dec_le}
use borrow.Author.Count.{below_more}
use Rattle.lists.specs.Contradiction.{contradiction}

-- of m numbers from k on the first that the test takes, or the number behind them
unfoldable pub first_from : (ℕ → Bool) → ℕ → ℕ → ℕ
first_from f k zero = k
first_from f k (suc m) = cond (f k) k (first_from f (suc k) m)

unfoldable pub first : (ℕ → Bool) → ℕ → ℕ
first f n = first_from f 0 n

-- p is n where the test takes none
pub record First (f : ℕ → Bool) (n p : ℕ) : Type 0 where
  pub most : p ≤ n
  pub none : (k : ℕ) → k < p → f k ≡ false
  pub taken : p < n → f p ≡ true
