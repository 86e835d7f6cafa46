-- The direction of a position X, Y from the centre: with N the root of 65,536 (X² + Y² + F²), each of X, Y and F times 256 x 10^9 over N, toward zero.
-- Assumes nothing.
use Rattle.std.specs.Prelude.{ℕ, ◌+◌, ◌*◌, ℤ, pos, nat_abs, ◌*ℤ◌}
use Rattle.std.specs.Int.Signed.{quot_z}
use Rattle.numbers.specs.Root.{root}
use Rattle.vectors.specs.declared.Vec3.{Vec3}

-- the square of a signed number
abbrev pub square : ℤ → ℕ
square z = nat_abs z * nat_abs z

unfoldable pub norm_of : ℤ → ℤ → ℤ → ℕ
norm_of x y f = root (65536 * (square x + square y + square f))

abbrev pub scaled_of : ℤ → ℕ → ℤ
scaled_of z n = quot_z (pos 256000000000 *ℤ z) (pos n)

unfoldable pub toward_of : ℤ → ℤ → ℤ → Vec3
toward_of x y f = record { x = scaled_of x (norm_of x y f); y = scaled_of y (norm_of x y f); z = scaled_of f (norm_of x y f) }
