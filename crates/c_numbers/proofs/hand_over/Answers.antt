-- The numbers stand at the start of the room, and the rest of it is as it was.
use Rattle.std.proofs.Common.{◌≡◌, ◌∙◌, refl, pos, get_or, length-set, arith, w64}
use Rattle.std.proofs.lemmas.List.{take_all}
use borrow.Author.Tests.{lt-ltb, le-ltb}
use Rattle.numbers.specs.Num.{kept}
use Rattle.c_numbers.specs.Room.{handed_over}
use Rattle.c_numbers.specs.Copied.{copied}
use Rattle.c_numbers.proofs.hand_over.Goals as goal

pub returns-then-is_short : goal.returns-then-is_short
unfolding handed_over
returns-then-is_short c = rw (lt-ltb _ _ c.if-is_short.true) refl

pub loop-i-preserved : goal.loop-i-preserved
loop-i-preserved c =
    let i = c.loop-i.i in
    let v = c.loop-i.invariant in
    let e = kept w64 {r = get_or c.args.flat i (pos 0)} c.out-1.given refl in
    (v.0, v.1, simp length-set v.2, rw (e, v.3) (copied (pos 0) c.args.flat c.args.out.now i (omega (arith, v.1)) (omega (arith, v.0))))

pub returns : goal.returns
unfolding handed_over
returns c =
    let v = c.loop-i.invariant in
    let e : c.loop-i.i ≡ 64 = omega arith in
    v.3 ∙ rw (e, take_all 64 c.args.flat (omega (arith, v.1)), le-ltb _ _ v.0) refl
