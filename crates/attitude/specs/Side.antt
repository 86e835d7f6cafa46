-- One side of TRIAD, from two vectors: t1 is the first; t2 is 10^9 times the direction of their cross product; t3 is the cross product of t1 and t2 over 10^9.
-- Assumes nothing.
use Rattle.std.specs.Prelude.{ℕ, ◌+◌, ◌*◌, ℤ, pos, nat_abs, ◌*ℤ◌}
use Rattle.std.specs.Int.Signed.{quot_z}
use Rattle.numbers.specs.Root.{root}
use Rattle.vectors.specs.declared.Vec3.{Vec3}
use Rattle.vectors.specs.Vectors.{cross_of}
use Rattle.attitude.specs.declared.side.Axes.{Axes}
use Rattle.attitude.specs.Scale.{over_of, reduced_of}

-- the sum of the squares
abbrev pub squares_of : Vec3 → ℕ
squares_of v = nat_abs v.x * nat_abs v.x + nat_abs v.y * nat_abs v.y + nat_abs v.z * nat_abs v.z

-- 10^9 d over n, toward zero
abbrev pub unit_by : Vec3 → ℤ → Vec3
unit_by d n =
    record {
      x = quot_z (pos 1000000000 *ℤ d.x) n;
      y = quot_z (pos 1000000000 *ℤ d.y) n;
      z = quot_z (pos 1000000000 *ℤ d.z) n;
    }

unfoldable pub unit_of : Vec3 → Vec3
unit_of d = unit_by d (pos (root (squares_of d)))

-- the axes along t1 and t2
abbrev pub axes_by : Vec3 → Vec3 → Axes
axes_by t1 t2 = record { t1 = t1; t2 = t2; t3 = over_of (cross_of t1 t2) (pos 1000000000) }

unfoldable pub axes_of : Vec3 → Vec3 → Axes
axes_of v w = axes_by v (unit_of (reduced_of (cross_of v w)))
