-- Each step counts what it tells. Assumes nothing.
use Rattle.std.specs.Prelude.{length}
use Rattle.std.proofs.Common.{◌≤◌, arith, ap}
use Rattle.catalogue_compare.specs.Places.{valid-rises}
use Rattle.catalogue_compare.specs.Taken.{step_from}
use Rattle.catalogue_compare.specs.Walk.{told_none, told-one, counted_start}
use Rattle.catalogue_compare.proofs.Merge.{more-left, some-number, none-number}
use Rattle.catalogue_compare.proofs.WalkLaws.{walk-further, counted_next, counted-all}
use Rattle.catalogue_compare.proofs.walk.count.Goals as goal

pub loop-s-init : goal.loop-s-init
loop-s-init c = counted_start _ _

pub loop-s-smaller-then-is_some : goal.loop-s-smaller-then-is_some
loop-s-smaller-then-is_some c =
    let first = c.args.first.now in
    let second = c.args.second.now in
    let r = valid-rises (λ k. (c.type_inv.first k).fits) c.requires.0 in
    let q = valid-rises (λ k. (c.type_inv.second k).fits) c.requires.1 in
    let w = c.loop-s.invariant.walked in
    let h = more-left w.cut-first.most w.cut-second.most c.in-Some.ensures.0 in
    let s = step_from c.in-Some.s in
    let e = c.in-Some.ensures.1 in
    omega (arith, walk-further r q w h s e, h)

pub loop-s-preserved-then-is_some : goal.loop-s-preserved-then-is_some
loop-s-preserved-then-is_some c =
    let first = c.args.first.now in
    let second = c.args.second.now in
    let r = valid-rises (λ k. (c.type_inv.first k).fits) c.requires.0 in
    let q = valid-rises (λ k. (c.type_inv.second k).fits) c.requires.1 in
    let w = c.loop-s.invariant.walked in
    let h = more-left w.cut-first.most w.cut-second.most c.in-Some.ensures.0 in
    let s = step_from c.in-Some.s in
    let e = c.in-Some.ensures.1 in
    counted_next r q c.loop-s.invariant h s e (omega (arith, ap length (told-one s (some-number c.in-Some.s.change c.is_some.ensures c.if-is_some.true))))

pub loop-s-smaller : goal.loop-s-smaller
loop-s-smaller c =
    let first = c.args.first.now in
    let second = c.args.second.now in
    let r = valid-rises (λ k. (c.type_inv.first k).fits) c.requires.0 in
    let q = valid-rises (λ k. (c.type_inv.second k).fits) c.requires.1 in
    let w = c.loop-s.invariant.walked in
    let h = more-left w.cut-first.most w.cut-second.most c.in-Some.ensures.0 in
    let s = step_from c.in-Some.s in
    let e = c.in-Some.ensures.1 in
    omega (arith, walk-further r q w h s e, h)

pub loop-s-preserved : goal.loop-s-preserved
loop-s-preserved c =
    let first = c.args.first.now in
    let second = c.args.second.now in
    let r = valid-rises (λ k. (c.type_inv.first k).fits) c.requires.0 in
    let q = valid-rises (λ k. (c.type_inv.second k).fits) c.requires.1 in
    let w = c.loop-s.invariant.walked in
    let h = more-left w.cut-first.most w.cut-second.most c.in-Some.ensures.0 in
    let s = step_from c.in-Some.s in
    let e = c.in-Some.ensures.1 in
    counted_next r q c.loop-s.invariant h s e (omega (arith, ap length (told_none s (none-number c.in-Some.s.change c.is_some.ensures c.if-is_some.false))))

pub returns : goal.returns
returns c =
    let first = c.args.first.now in
    let second = c.args.second.now in
    let r = valid-rises (λ k. (c.type_inv.first k).fits) c.requires.0 in
    let q = valid-rises (λ k. (c.type_inv.second k).fits) c.requires.1 in
    let w = c.loop-s.invariant.walked in
    let e = c.in_default.ensures in
    let few : c.loop-s.found ≤ 1024 = omega (arith, c.loop-s.invariant.few, w.cut-first.most, w.cut-second.most, c.requires.0.size.most, c.requires.1.size.most) in
    (counted-all r q c.loop-s.invariant (omega (arith, e.0, e.1)), few)
