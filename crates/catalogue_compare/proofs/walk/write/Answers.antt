-- Each step writes what it tells. Assumes nothing.
use Rattle.std.proofs.Common.{arith}
use Rattle.catalogue_compare.specs.Places.{valid-rises}
use Rattle.catalogue_compare.specs.Taken.{step_from}
use Rattle.catalogue_compare.specs.Written.{written_start}
use Rattle.catalogue_compare.proofs.Merge.{more-left}
use Rattle.catalogue_compare.proofs.WalkLaws.{walk-further}
use Rattle.catalogue_compare.proofs.Written.{written-room, written_next, written_all}
use Rattle.catalogue_compare.proofs.walk.write.Goals as goal

pub loop-s-init : goal.loop-s-init
loop-s-init c = written_start _ _ _

pub put-found-requires : goal.put-found-requires
put-found-requires c =
    let first = c.args.first.now in
    let second = c.args.second.now in
    let r = valid-rises (λ k. (c.type_inv.first k).fits) c.requires.valid.0 in
    let q = valid-rises (λ k. (c.type_inv.second k).fits) c.requires.valid.1 in
    let w = c.loop-s.invariant.walked in
    let h = more-left w.cut-first.most w.cut-second.most c.in-Some.ensures.0 in
    let s = step_from c.in-Some.s in
    let e = c.in-Some.ensures.1 in
    omega (arith, written-room r q c.loop-s.invariant h s e c.requires.second_in_bounds, c.loop-s.auto.room)

pub loop-s-smaller : goal.loop-s-smaller
loop-s-smaller c =
    let first = c.args.first.now in
    let second = c.args.second.now in
    let r = valid-rises (λ k. (c.type_inv.first k).fits) c.requires.valid.0 in
    let q = valid-rises (λ k. (c.type_inv.second k).fits) c.requires.valid.1 in
    let w = c.loop-s.invariant.walked in
    let h = more-left w.cut-first.most w.cut-second.most c.in-Some.ensures.0 in
    let s = step_from c.in-Some.s in
    let e = c.in-Some.ensures.1 in
    omega (arith, walk-further r q w h s e, h)

pub loop-s-preserved : goal.loop-s-preserved
loop-s-preserved c =
    let first = c.args.first.now in
    let second = c.args.second.now in
    let r = valid-rises (λ k. (c.type_inv.first k).fits) c.requires.valid.0 in
    let q = valid-rises (λ k. (c.type_inv.second k).fits) c.requires.valid.1 in
    let w = c.loop-s.invariant.walked in
    let h = more-left w.cut-first.most w.cut-second.most c.in-Some.ensures.0 in
    let s = step_from c.in-Some.s in
    let e = c.in-Some.ensures.1 in
    let p = c.put-found.ensures in
    written_next r q c.loop-s.invariant h s e c.requires.second_in_bounds p.value p.room_after

pub returns : goal.returns
returns c =
    let first = c.args.first.now in
    let second = c.args.second.now in
    let r = valid-rises (λ k. (c.type_inv.first k).fits) c.requires.valid.0 in
    let q = valid-rises (λ k. (c.type_inv.second k).fits) c.requires.valid.1 in
    let w = c.loop-s.invariant.walked in
    let e = c.in_default.ensures in
    written_all r q c.loop-s.invariant (omega (arith, e.0, e.1))
