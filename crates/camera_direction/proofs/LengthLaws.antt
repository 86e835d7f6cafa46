-- How long a direction is: x² + y² + z² is within k of 10^18, where k is at least 4 x 10^9 and k times the focal length, in 256ths of a pixel, at least
-- 2 x 10^18 / 256. With the shortest lens, 64 pixels, that is within 5 x 10^11. Assumes nothing.
use Rattle.std.specs.Prelude.{◌≡◌, ℕ, ◌+◌, ◌*◌, ◌/◌, ◌≤◌, ℤ}
use Rattle.std.proofs.Common.{le_refl, le_trans, mul-le-mul, arith, lit≤}
use Rattle.std.proofs.Math.IntN.{nat_abs}
use Rattle.numbers.specs.Abs.{abs-mul, abs-quot}
use Rattle.numbers.specs.Root.{Root, root_is}
use Rattle.vectors.specs.Unit.{NearlyUnit, drawn-unit}
use Rattle.camera_direction.specs.Position.{square, norm_of, scaled_of, toward_of}
use Rattle.camera_direction.specs.PositionLaws.{covers-f}

module _ (x y f : ℤ) where
  -- N is the root of the squares of 256 X, 256 Y and 256 F
  norm-root : Root (256 * nat_abs x * (256 * nat_abs x) + 256 * nat_abs y * (256 * nat_abs y) + 256 * nat_abs f * (256 * nat_abs f)) (norm_of x y f)
  unfolding norm_of
  norm-root =
      let r = root_is (65536 * (square x + square y + square f)) in
      record { below = omega (arith, r.below); above = omega (arith, r.above) }

  drawn : (z : ℤ) (n : ℕ) → nat_abs (scaled_of z n) ≡ 1000000000 * (256 * nat_abs z) / n
  drawn z n = rw (abs-quot, abs-mul, times (nat_abs z))
    where
      times : (a : ℕ) → 256000000000 * a ≡ 1000000000 * (256 * a)
      times a = omega arith

  -- by the focal length
  pub toward-unit-by : (k : ℕ) → 4000000000 ≤ k → 7812500000000000 ≤ nat_abs f * k → NearlyUnit k (toward_of x y f)
  unfolding toward_of
  toward-unit-by k least long =
      drawn-unit k (norm_of x y f) (256 * nat_abs x) (256 * nat_abs y) (256 * nat_abs f) (toward_of x y f) norm-root
      (le_trans (omega arith) (mul-le-mul (covers-f x y f) (le_refl k))) least
      (drawn x (norm_of x y f)) (drawn y (norm_of x y f)) (drawn f (norm_of x y f))

  -- and with every lens that is accepted
  pub toward-unit : 16384 ≤ nat_abs f → NearlyUnit 500000000000 (toward_of x y f)
  toward-unit h = toward-unit-by 500000000000 (lit≤ tt) (omega arith)
