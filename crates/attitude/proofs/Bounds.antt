-- How large each number on the way to the matrix is, so that every step fits: d is below 2^30, t2 within 10^9, t3 within 2 * 10^9, an entry's
-- sum within 6 * 10^18 and the entry within 6 * 10^9. Assumes nothing.
use Rattle.std.specs.Prelude.{◌≡◌, ℕ, zero, suc, ◌*◌, ◌/◌, ◌^◌, ◌≤◌, ◌<◌, max, ℤ, pos, nat_abs, ◌*ℤ◌}
use Rattle.std.proofs.Common.{zero-le, mul-le-mul, mul-le-mul_left, mul_comm, le-div_iff_mul-le, div-mul-le_self, arith, lit<, pow_pos}
use Rattle.std.proofs.Math.Nat.{le_trans, div-le_of_le-mul}
use Rattle.std.proofs.Math.Decide.{dec_le}
use Rattle.std.specs.Int.Signed.{quot_z}
use Rattle.numbers.specs.Abs.{abs-mul, abs-quot}
use Rattle.numbers.specs.Within.{Within, within-add, within-mul}
use Rattle.numbers.specs.Root.{root, root_is, square-root}
use Rattle.vectors.specs.declared.Vec3.{Vec3}
use Rattle.vectors.specs.Vectors.{Within3}
use Rattle.vectors.specs.Laws.{wider3, cross-within}
use Rattle.attitude.specs.declared.side.Axes.{Axes}
use Rattle.attitude.specs.Scale.{largest_of, over_of, shift_of, reduced_of}
use Rattle.attitude.specs.Side.{squares_of, unit_of, axes_of}
use Rattle.attitude.specs.Entries.{AxesWithin, MatrixWithin, entry_by, row_by, product_of}
use Rattle.attitude.specs.Shift.{Shift, shift_is, shift-at, kept}
use Rattle.attitude.specs.Bounds.{over-within, unit-within}

pub axes-within : (v w : Vec3) → Within3 1000000000 v → AxesWithin (axes_of v w)
unfolding axes_of
axes-within v w h =
    record {
      t1 = h;
      t2 = unit-within _;
      t3 = over-within (lit< tt) (cross-within h (unit-within _));
    }
