-- Counting: how many numbers, and how many pairs of numbers, pass a test. Assumes nothing.
use Rattle.std.specs.Prelude.{Bool, cond, ℕ, zero, suc, ◌+◌}

-- one more where the test holds
abbrev pub one : Bool → ℕ
one passed = cond passed 1 0

-- how many of 0 .. n - 1 pass the test
unfoldable pub number : ℕ → (ℕ → Bool) → ℕ
number zero test = 0
number (suc n) test = number n test + one (test n)

-- how many pairs of one of 0 .. m - 1 and one of 0 .. n - 1 pass the test
unfoldable pub pairs : ℕ → ℕ → (ℕ → ℕ → Bool) → ℕ
pairs m zero test = 0
pairs m (suc n) test = pairs m n test + number m (λ j. test j n)
