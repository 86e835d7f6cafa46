-- What N is, and how large N and a direction are: N is at least 256 times each offset, so that a direction stays within ±10^9. Assumes nothing.
use Rattle.std.specs.Prelude.{ℕ, ◌*◌, ◌≤◌, ℤ, nat_abs}
use Rattle.std.proofs.Common.{arith}
use Rattle.std.proofs.Math.Nat.{div-le_of_le-mul}
use Rattle.numbers.specs.Abs.{abs-mul, abs-quot}
use Rattle.numbers.specs.Within.{Within}
use Rattle.vectors.specs.Vectors.{Within3}
use Rattle.camera_direction.specs.Position.{norm_of, scaled_of, toward_of}
use Rattle.camera_direction.specs.PositionLaws.{covers-x, covers-y, covers-f}

scaled-within : (z : ℤ) (n : ℕ) → 256 * nat_abs z ≤ n → Within 1000000000 (scaled_of z n)
scaled-within z n h = record { within = rw (abs-quot, abs-mul) (div-le_of_le-mul n (omega arith)) }

pub toward-within : (x y f : ℤ) → Within3 1000000000 (toward_of x y f)
unfolding toward_of
toward-within x y f =
    record {
      x = scaled-within x (norm_of x y f) (covers-x x y f);
      y = scaled-within y (norm_of x y f) (covers-y x y f);
      z = scaled-within f (norm_of x y f) (covers-f x y f);
    }
