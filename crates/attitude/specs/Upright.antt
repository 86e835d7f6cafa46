-- The axes of a side stand nearly upright on one another: the dot product of the first two is within 9 x 10^9, and that of the third with either within
-- 3 x 10^9, of 10^18. And t2 is nearly a unit: the square of its length is within 4 x 10^9 of 10^18. Assumes nothing.
use Rattle.std.specs.Prelude.{◌≡◌, ℕ, ◌+◌, ◌*◌, ◌/◌, ◌^◌, ◌≤◌, ◌<◌, ℤ, pos, ◌-ℤ◌, ◌*ℤ◌}
use Rattle.std.proofs.Common.{◌∙◌, sym, arith, lit<, lit≤, pow_pos}
use Rattle.std.proofs.Math.IntN.{nat_abs}
use Rattle.std.specs.Int.Signed.{quot_z}
use Rattle.numbers.specs.Abs.{abs-mul, abs-quot}
use Rattle.numbers.specs.Within.{Within, within-sub, within-mul}
use Rattle.numbers.specs.Root.{root, root_is}
use Rattle.numbers.specs.Split.{Split, split, within-as, within_none, within-pos, cut}
use Rattle.vectors.specs.declared.Vec3.{Vec3}
use Rattle.vectors.specs.Vectors.{Within3, dot_of, cross_of}
use Rattle.vectors.specs.Laws.{dot-within, cross-within}
use Rattle.vectors.specs.Symbols.{times_of}
use Rattle.vectors.specs.Identities.{upright-first, upright-second, dot-times, dot-rest, dot-rest-from}
use Rattle.vectors.specs.Unit.{NearlyUnit, drawn-unit}
use Rattle.attitude.specs.Scale.{largest_of, over_of, shift_of, reduced_of}
use Rattle.attitude.specs.Side.{squares_of, unit_of, axes_of}
use Rattle.attitude.specs.Bounds.{unit-within}
use Rattle.attitude.specs.Nearly.{Apart}
use Rattle.attitude.specs.Length.{root-long}

-- a dot product with c over p
pub over-near :
    {s b k p : ℕ} (a c : Vec3) →
    0 < p → Within3 s a → Within b (dot_of a c) → b + (s * p + s * p + s * p) ≤ p * k → Within k (dot_of a (over_of c (pos p)))
over-near {p} a c h w o l =
    let i = split h c.x in
    let j = split h c.y in
    let k = split h c.z in
    let r : Vec3 = record { x = i.rest; y = j.rest; z = k.rest } in
    cut h ((λ t. dot_of a (record { x = i.is t; y = j.is t; z = k.is t }) -ℤ dot_of a r) ∙ dot-rest (pos p) a (over_of c (pos p)) r)
    (within-sub o (dot-within w (record { x = i.small; y = j.small; z = k.small }))) l

-- and against a number e
pub over-near-from :
    {s b k p : ℕ} (e : ℤ) (a c : Vec3) →
    0 < p → Within3 s a → Within b (dot_of a c -ℤ pos p *ℤ e) → b + (s * p + s * p + s * p) ≤ p * k → Within k (dot_of a (over_of c (pos p)) -ℤ e)
over-near-from {p} e a c h w o l =
    let i = split h c.x in
    let j = split h c.y in
    let k = split h c.z in
    let r : Vec3 = record { x = i.rest; y = j.rest; z = k.rest } in
    cut h
    ((λ t. dot_of a (record { x = i.is t; y = j.is t; z = k.is t }) -ℤ pos p *ℤ e -ℤ dot_of a r) ∙ dot-rest-from (pos p) e a (over_of c (pos p)) r)
    (within-sub o (dot-within w (record { x = i.small; y = j.small; z = k.small }))) l

-- ---- t3 with the other two, of any two vectors
