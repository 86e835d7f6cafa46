-- Sums over the numbers below a bound, and how large a weight times a place and a fraction are. Assumes nothing.
use Rattle.std.specs.Prelude.{◌≡◌, ℕ, zero, suc, ◌+◌, ◌*◌, ◌/◌, ◌≤◌, ◌<◌, ℤ, pos, ◌+ℤ◌}
use Rattle.std.proofs.Math.Nat.{div-le_of_le-mul}
use Rattle.std.proofs.Common.{mul-le-mul_left, arith, add-one}

unfoldable pub sum_below : ℕ → (ℕ → ℕ) → ℕ
sum_below zero g = 0
sum_below (suc n) g = sum_below n g + g n

unfoldable pub sumℤ-below : ℕ → (ℕ → ℤ) → ℤ
sumℤ-below zero g = pos 0
sumℤ-below (suc n) g = sumℤ-below n g +ℤ g n

pub sum-next : (n : ℕ) (g : ℕ → ℕ) → sum_below (n + 1) g ≡ sum_below n g + g n
unfolding sum_below
sum-next n g = rw add-one

-- a number times a place of the inner part
pub times-small : (a j : ℕ) → j < 5 → a * j ≤ 4 * a
times-small a j h = omega (arith, mul-le-mul_left {m = j} {n = 4} a (omega arith))

-- the quotient by b of 256 times what is at most 2 b: two pixels
pub quotient-small : (d b : ℕ) → d ≤ 2 * b → 256 * d / b ≤ 512
quotient-small d b h = div-le_of_le-mul b {m = 256 * d} {n = 512} (omega arith)
