-- Heron's rule for a root, step by step: where it starts, what one step does, what k steps leave, and what settles the last. Assumes nothing.
use Rattle.std.specs.Prelude.{cond, ℕ, zero, suc, ◌+◌, ◌-◌, ◌*◌, ◌/◌, ◌^◌, leb}
use Rattle.std.specs.Int.Count.{count_leading_zeros}

-- one step: the mean of a guess and of n divided by it
abbrev pub step : ℕ → ℕ → ℕ
step n x = (x + n / x) / 2

-- half of n's length in bits, of 64
abbrev pub half : ℕ → ℕ
half n = (64 - count_leading_zeros 64 n) / 2

-- the first guess: the mean of the power of two at half of n's length and of n divided by it
abbrev pub guess : ℕ → ℕ
guess n = step n (2 ^ half n)

-- what k steps make of x
unfoldable pub steps : ℕ → ℕ → ℕ → ℕ
steps zero n x = x
steps (suc k) n x = step n (steps k n x)

-- a guess that is the root or one more, settled by its square
abbrev pub settle : ℕ → ℕ → ℕ
settle n x = cond (leb (x * x) n) x (x - 1)
