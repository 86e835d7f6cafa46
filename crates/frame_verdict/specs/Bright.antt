-- What is measured has some brightness, on every frame. No pixel of its window beats it, so none there is larger; those of the top border are earlier,
-- so each of them is smaller. The border's 24 samples then come to less than 24 times its own, and its own weight is above 0. Assumes nothing.
use Rattle.std.specs.Prelude.{ℕ, zero, suc, ◌*◌, ◌≤◌, ◌<◌}
use Rattle.std.proofs.Common.{suc-mul}
use native.Mathlib.Omega.{arith}
use Rattle.frame_centroid.specs.Sums.{sum_below}

-- ---- sums of numbers that are at most p

sum-most : (n p : ℕ) (g : ℕ → ℕ) → ((k : ℕ) → k < n → g k ≤ p) → sum_below n g ≤ n * p
unfolding sum_below
sum-most zero p g h = omega arith
sum-most (suc n) p g h = omega (arith, sum-most n p g (λ k l. h k (omega arith)), h n (omega arith), suc-mul n p)

-- the first is smaller, so the sum is
pub sum_less : (n p : ℕ) (g : ℕ → ℕ) → g 0 < p → ((k : ℕ) → k < suc n → g k ≤ p) → sum_below (suc n) g < suc n * p
unfolding sum_below
sum_less zero p g f h = omega arith
sum_less (suc n) p g f h = omega (arith, sum_less n p g f (λ k l. h k (omega arith)), h (suc n) (omega arith), suc-mul (suc n) p)

-- ---- the window of a pixel that is not beaten
