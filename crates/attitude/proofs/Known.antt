-- Where the root of a side is known its axes are computed with it, since `root` itself is shut: this serves cases with numbers. Assumes nothing.
use Rattle.std.specs.Prelude.{◌≡◌, ℕ, pos}
use Rattle.std.proofs.Common.{sym, ap}
use Rattle.numbers.specs.Root.{Root, root-of}
use Rattle.vectors.specs.declared.Vec3.{Vec3}
use Rattle.vectors.specs.Vectors.{cross_of}
use Rattle.attitude.specs.Scale.{reduced_of}
use Rattle.attitude.specs.Side.{squares_of, unit_by, unit_of, axes_by, axes_of}
use Rattle.attitude.specs.Entries.{product_of}
use Rattle.attitude.specs.Attitude.{out_of_range, either_close, matrix_of, attitude_of}
use Rattle.attitude.specs.Laws.{given}
use Rattle.attitude.specs.Known.{reduced_cross, axes-by}

pub attitude-by :
    (v1 v2 w1 w2 : Vec3) {n m : ℕ} →
    Root (squares_of (reduced_cross v1 v2)) n →
    Root (squares_of (reduced_cross w1 w2)) m →
    attitude_of v1 v2 w1 w2 ≡
    given
    (out_of_range v1 v2 w1 w2)
    (either_close v1 v2 w1 w2)
    (product_of (axes_by v1 (unit_by (reduced_cross v1 v2) (pos n))) (axes_by w1 (unit_by (reduced_cross w1 w2) (pos m))))
unfolding attitude_of matrix_of
attitude-by v1 v2 w1 w2 p q =
    λ i. given (out_of_range v1 v2 w1 w2) (either_close v1 v2 w1 w2) (product_of (axes-by v1 v2 p i) (axes-by w1 w2 q i))
