-- Where the root of a side is known its axes are computed with it, since `root` itself is shut: this serves cases with numbers. Assumes nothing.
use Rattle.std.specs.Prelude.{◌≡◌, ℕ, pos}
use Rattle.std.proofs.Common.{sym, ap}
use Rattle.numbers.specs.Root.{Root, root-of}
use Rattle.vectors.specs.declared.Vec3.{Vec3}
use Rattle.vectors.specs.Vectors.{cross_of}
use Rattle.attitude.specs.Scale.{reduced_of}
use Rattle.attitude.specs.Side.{squares_of, unit_by, unit_of, axes_by, axes_of}
use Rattle.attitude.specs.Entries.{product_of}
use Rattle.attitude.specs.Attitude.{out_of_range, either_close, matrix_of, attitude_of}
use Rattle.attitude.specs.Laws.{given}

-- d of a side
abbrev pub reduced_cross : Vec3 → Vec3 → Vec3
reduced_cross v w = reduced_of (cross_of v w)

pub axes-by : (v w : Vec3) {n : ℕ} → Root (squares_of (reduced_cross v w)) n → axes_of v w ≡ axes_by v (unit_by (reduced_cross v w) (pos n))
unfolding axes_of unit_of
axes-by v w r = ap (λ (n : ℕ). axes_by v (unit_by (reduced_cross v w) (pos n))) (sym (root-of r))
