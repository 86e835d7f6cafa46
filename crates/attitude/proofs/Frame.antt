-- The three axes of a side together: the third is as long as the first, the rows that they make are as the axes are, and their determinant is nearly 10^27.
-- Assumes nothing.
use Rattle.std.specs.Prelude.{◌≡◌, ℕ, ◌+◌, ◌*◌, ◌≤◌, ℤ, pos, nat_abs, ◌+ℤ◌, ◌-ℤ◌, ◌*ℤ◌}
use Rattle.std.proofs.Common.{sym, ap, ◌∙◌, mul-le-mul, arith, lit<, lit≤}
use Rattle.std.proofs.Math.Decide.{dec_le}
use Rattle.std.proofs.Math.IntN.{+ℤ_invr}
use Rattle.numbers.specs.Within.{Within, wider, within-add, within-sub, within-mul}
use Rattle.numbers.specs.Split.{Split, split, within-as, within_none, within-pos, cut}
use Rattle.numbers.specs.Squares.{square, apart-within, not-above}
use Rattle.vectors.specs.declared.Vec3.{Vec3}
use Rattle.vectors.specs.Vectors.{Within3, dot_of, cross_of}
use Rattle.vectors.specs.Laws.{dot-within}
use Rattle.vectors.specs.Symbols.{more_of, sum_of, turn_of}
use Rattle.vectors.specs.Identities.{through, dot-turn}
use Rattle.vectors.specs.Unit.{NearlyUnit, dot-squares}
use Rattle.attitude.specs.Side.{squares_of, axes_of}
use Rattle.attitude.proofs.Bounds.{axes-within}
use Rattle.attitude.specs.Nearly.{Apart, NearlyOrthonormal}
use Rattle.attitude.specs.Identities.{third-square, row_same, row_next, det-axes}
use Rattle.attitude.proofs.Upright.{second-upright, second-unit, third-upright, third-upright-second}
use Rattle.attitude.specs.Frame.{third-by, Frame}

-- the axes of a side are such
pub side-frame : {l : ℕ} (v w : Vec3) → Apart v w → NearlyUnit l v → Frame l v (axes_of v w).t2 (axes_of v w).t3
unfolding axes_of
side-frame v w h u =
    let within = axes-within v w h.first in
    let n = cross_of v (axes_of v w).t2 in
    record {
      first = h.first;
      second = within.t2;
      third = within.t3;
      first-long = u.length;
      second-long = (second-unit v w h).length;
      first-second = second-upright v w h;
      first-third = third-upright v w h.first;
      second-third = third-upright-second v w h.first;
      x = split (lit< tt) n.x;
      y = split (lit< tt) n.y;
      z = split (lit< tt) n.z;
    }

-- any vector in range is within 2 x 10^18 of a unit
any-unit : {v : Vec3} → Within3 1000000000 v → NearlyUnit 2000000000000000000 v
any-unit {v} h =
    let q : squares_of v ≤ 3000000000000000000 =
    omega (arith, mul-le-mul h.x.within h.x.within, mul-le-mul h.y.within h.y.within, mul-le-mul h.z.within h.z.within) in
    record {
      length = within-as (ap (λ (k : ℤ). k -ℤ pos 1000000000000000000) (sym (dot-squares v)))
          (apart-within (squares_of v) 1000000000000000000 (omega arith) (omega arith));
    }

-- THE AXES OF A SIDE, of any two vectors that are in range and not too close
pub axes-orthonormal : (v w : Vec3) → Apart v w → NearlyOrthonormal (axes_of v w)
unfolding axes_of
axes-orthonormal v w h =
    let f = side-frame v w h (any-unit h.first) in
    record {
      first-second = f.first-second;
      first-third = f.first-third;
      second-third = f.second-third;
      second = f.second-long;
      third = third-by f {k = 2000000000000000000} (lit≤ tt) (lit≤ tt);
    }
