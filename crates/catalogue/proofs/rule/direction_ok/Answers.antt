-- Past the three tests each square is within 10^18 of 0, so that their sum fits. Assumes nothing.
use Rattle.std.specs.Prelude.{Bool, true, ◌≡◌, ℤ, pos, nat_abs, leb}
use Rattle.std.proofs.Common.{sym, ap, ◌∙◌}
use Rattle.std.specs.Int.{w64}
use borrow.Author.Tests.{leb-true}
use mir.Val.{SFits, to_z, of_z}
use Rattle.numbers.specs.Within.{Within}
use Rattle.numbers.specs.Num.{Num, param, arg, lit, mul, add, sub, fits, back}
use Rattle.catalogue.specs.Rule.{largest, square_sum, slack, in_range, direction_ok}
use Rattle.catalogue.proofs.rule.direction_ok.Goals as goal

-- what `numbers::within` gave, of the number itself
tested : {z : ℤ} {r t : Bool} → SFits w64 z → r ≡ in_range (to_z w64 (of_z w64 z)) → r ≡ t → in_range z ≡ t
tested f e h = ap in_range (sym (back (param f))) ∙ sym e ∙ h

within_of : (z : ℤ) → in_range z ≡ true → Within largest z
within_of z e = record { within = leb-true (nat_abs z) largest e }

-- the sum of the squares, part by part
module _ (x y z : ℤ) (p : in_range x ≡ true) (q : in_range y ≡ true) (r : in_range z ≡ true) where
  abbrev xx : Num w64
  xx = let n = arg (within_of x p) tt in mul n n tt

  abbrev yy : Num w64
  yy = let n = arg (within_of y q) tt in mul n n tt

  abbrev zz : Num w64
  zz = let n = arg (within_of z r) tt in mul n n tt

  abbrev two : Num w64
  two = add xx yy tt

  abbrev sum : Num w64
  sum = add two zz tt

  abbrev apart : Num w64
  apart = sub sum (lit (pos square_sum) tt) tt

pub returns-then-not-within : goal.returns-then-not-within
unfolding direction_ok
returns-then-not-within c = rw (tested c.ranges.x c.within.ensures c.if-not-within.true)

pub returns-then-not-within-2 : goal.returns-then-not-within-2
unfolding direction_ok
returns-then-not-within-2 c =
    rw (tested c.ranges.x c.within.ensures c.if-not-within.false, tested c.ranges.y c.within-2.ensures c.if-not-within-2.true)

pub returns-then-not-within-3 : goal.returns-then-not-within-3
unfolding direction_ok
returns-then-not-within-3 c =
    rw (
      tested c.ranges.x c.within.ensures c.if-not-within.false,
      tested c.ranges.y c.within-2.ensures c.if-not-within-2.false,
      tested c.ranges.z c.within-3.ensures c.if-not-within-3.true,
    )

pub overflow_mul-zz : goal.overflow_mul-zz
overflow_mul-zz c = let n = arg {w = w64} (within_of c.args.z (tested c.ranges.z c.within-3.ensures c.if-not-within-3.false)) tt in fits (mul n n tt)

pub overflow_mul-x : goal.overflow_mul-x
overflow_mul-x c = let n = arg {w = w64} (within_of c.args.x (tested c.ranges.x c.within.ensures c.if-not-within.false)) tt in fits (mul n n tt)

pub overflow_mul-y : goal.overflow_mul-y
overflow_mul-y c = let n = arg {w = w64} (within_of c.args.y (tested c.ranges.y c.within-2.ensures c.if-not-within-2.false)) tt in fits (mul n n tt)

pub overflow_add-x : goal.overflow_add-x
overflow_add-x c =
    let x = c.args in
    fits (two x.x x.y x.z (tested c.ranges.x c.within.ensures c.if-not-within.false) (tested c.ranges.y c.within-2.ensures c.if-not-within-2.false)
    (tested c.ranges.z c.within-3.ensures c.if-not-within-3.false))

pub overflow_add-x-2 : goal.overflow_add-x-2
overflow_add-x-2 c =
    let x = c.args in
    fits (sum x.x x.y x.z (tested c.ranges.x c.within.ensures c.if-not-within.false) (tested c.ranges.y c.within-2.ensures c.if-not-within-2.false)
    (tested c.ranges.z c.within-3.ensures c.if-not-within-3.false))

pub overflow_sub-x : goal.overflow_sub-x
overflow_sub-x c =
    let x = c.args in
    fits (apart x.x x.y x.z (tested c.ranges.x c.within.ensures c.if-not-within.false) (tested c.ranges.y c.within-2.ensures c.if-not-within-2.false)
    (tested c.ranges.z c.within-3.ensures c.if-not-within-3.false))

pub returns : goal.returns
unfolding direction_ok
returns c =
    let x = c.args in
    let p = tested c.ranges.x c.within.ensures c.if-not-within.false in
    let q = tested c.ranges.y c.within-2.ensures c.if-not-within-2.false in
    let r = tested c.ranges.z c.within-3.ensures c.if-not-within-3.false in
    rw (p, q, r) (c.within-4.ensures ∙ ap (λ (d : ℤ). leb (nat_abs d) slack) (back (apart x.x x.y x.z p q r)))
