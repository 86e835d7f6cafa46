-- The matrix is nearly a rotation: its rows are nearly units and nearly upright on one another, and its determinant is nearly 10^27. Assumes nothing.
use Rattle.std.specs.Prelude.{◌≡◌, ℕ, ◌+◌, ◌*◌, ◌≤◌, ℤ, pos, ◌+ℤ◌, ◌-ℤ◌, ◌*ℤ◌}
use Rattle.std.proofs.Common.{sym, ap, ◌∙◌, le_trans, lit<, lit≤}
use Rattle.std.proofs.Math.Nat.{div-le_of_le-mul}
use native.Mathlib.Omega.{arith}
use Rattle.std.proofs.Math.IntN.{+ℤ_idr, +ℤ_invr}
use Rattle.std.specs.Int.Signed.{quot_z}
use Rattle.numbers.specs.Abs.{abs-quot}
use Rattle.numbers.specs.Within.{Within, wider, within-add, within-sub, within-mul}
use Rattle.numbers.specs.Split.{Split, split, within-as, within_none, within-pos, cut}
use Rattle.vectors.specs.declared.Vec3.{Vec3}
use Rattle.vectors.specs.Vectors.{Within3, dot_of, cross_of}
use Rattle.vectors.specs.Laws.{dot-within, cross-within}
use Rattle.vectors.specs.Symbols.{more_of, sum_of, mix_of, det_of}
use Rattle.vectors.specs.Identities.{det-product}
use Rattle.vectors.specs.Unit.{NearlyUnit}
use Rattle.attitude.specs.Scale.{over_of}
use Rattle.attitude.specs.Side.{axes_of}
use Rattle.attitude.specs.Attitude.{matrix_of}
use Rattle.attitude.specs.Nearly.{Apart, NearlyIdentity}
use Rattle.attitude.specs.Identities.{row-product, outer-two, det-rest, parts}
use Rattle.attitude.specs.Frame.{Frame, third-small, third-near, gap, det-near, Rows, rows}

-- three numbers, as a side has them in a row
pub record Three (a b c : ℤ) : Type 0 where
  pub first : Within 1000000000 a
  pub second : Within 1000000000 b
  pub third : Within 1000000600 c
