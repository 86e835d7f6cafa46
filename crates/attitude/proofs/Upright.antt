-- The axes of a side stand nearly upright on one another: the dot product of the first two is within 9 x 10^9, and that of the third with either within
-- 3 x 10^9, of 10^18. And t2 is nearly a unit: the square of its length is within 4 x 10^9 of 10^18. Assumes nothing.
use Rattle.std.specs.Prelude.{◌≡◌, ℕ, ◌+◌, ◌*◌, ◌/◌, ◌^◌, ◌≤◌, ◌<◌, ℤ, pos, ◌-ℤ◌, ◌*ℤ◌}
use Rattle.std.proofs.Common.{◌∙◌, sym, arith, lit<, lit≤, pow_pos}
use Rattle.std.proofs.Math.IntN.{nat_abs}
use Rattle.std.specs.Int.Signed.{quot_z}
use Rattle.numbers.specs.Abs.{abs-mul, abs-quot}
use Rattle.numbers.specs.Within.{Within, within-sub, within-mul}
use Rattle.numbers.specs.Root.{root, root_is}
use Rattle.numbers.specs.Split.{Split, split, within-as, within_none, within-pos, cut}
use Rattle.vectors.specs.declared.Vec3.{Vec3}
use Rattle.vectors.specs.Vectors.{Within3, dot_of, cross_of}
use Rattle.vectors.specs.Laws.{dot-within, cross-within}
use Rattle.vectors.specs.Symbols.{times_of}
use Rattle.vectors.specs.Identities.{upright-first, upright-second, dot-times, dot-rest, dot-rest-from}
use Rattle.vectors.specs.Unit.{NearlyUnit, drawn-unit}
use Rattle.attitude.specs.Scale.{largest_of, over_of, shift_of, reduced_of}
use Rattle.attitude.specs.Side.{squares_of, unit_of, axes_of}
use Rattle.attitude.specs.Bounds.{unit-within}
use Rattle.attitude.specs.Nearly.{Apart}
use Rattle.attitude.specs.Length.{root-long}
use Rattle.attitude.specs.Upright.{over-near}

-- ---- d, its root n, and t2
module _ (v w : Vec3) (h : Apart v w) where
  abbrev d : Vec3
  d = reduced_of (cross_of v w)

  abbrev n : ℕ
  n = root (squares_of d)

  long : 2 ^ 29 ≤ n
  long = root-long (cross_of v w) (cross-within h.first h.second) h.apart

  -- with any vector that stands upright on the cross product
  module _ (a : Vec3) (near : Within3 1000000000 a) (upright : dot_of a (cross_of v w) ≡ pos 0) where
    reduced-upright : Within 3000000000 (dot_of a d)
    unfolding reduced_of
    reduced-upright = over-near a (cross_of v w) (pow_pos (shift_of (largest_of (cross_of v w)))) near (within_none upright) (omega arith)

    unit-upright : Within 9000000000 (dot_of a (unit_of d))
    unfolding unit_of
    unit-upright =
        let l = long in
        over-near a (times_of (pos 1000000000) d) (omega arith) near
        (within-as (sym (dot-times (pos 1000000000) a d)) (within-mul (within-pos 1000000000) reduced-upright))
        (omega arith)

  pub second-upright : Within 9000000000 (dot_of v (axes_of v w).t2)
  unfolding axes_of
  second-upright = unit-upright v h.first (upright-first v w)

  pub second-upright-other : Within 9000000000 (dot_of w (axes_of v w).t2)
  unfolding axes_of
  second-upright-other = unit-upright w h.second (upright-second v w)

  -- t2 is nearly a unit
  pub second-unit : NearlyUnit 4000000000 (axes_of v w).t2
  unfolding axes_of unit_of
  second-unit =
      let l = long in
      drawn-unit 4000000000 n (nat_abs d.x) (nat_abs d.y) (nat_abs d.z) (unit_of d) (root_is (squares_of d)) (omega arith) (lit≤ tt)
      (drawn d.x) (drawn d.y) (drawn d.z)
    where
      drawn : (z : ℤ) → nat_abs (quot_z (pos 1000000000 *ℤ z) (pos n)) ≡ 1000000000 * nat_abs z / n
      drawn z = rw (abs-quot, abs-mul)

module _ (v w : Vec3) (first : Within3 1000000000 v) where
  pub third-upright : Within 3000000000 (dot_of v (axes_of v w).t3)
  unfolding axes_of
  third-upright =
      let t = unit_of (reduced_of (cross_of v w)) in
      over-near v (cross_of v t) (lit< tt) first (within_none (upright-first v t)) (lit≤ tt)

  pub third-upright-second : Within 3000000000 (dot_of (axes_of v w).t2 (axes_of v w).t3)
  unfolding axes_of
  third-upright-second =
      let t = unit_of (reduced_of (cross_of v w)) in
      over-near t (cross_of v t) (lit< tt) (unit-within (reduced_of (cross_of v w))) (within_none (upright-second v t)) (lit≤ tt)
