-- The stars are gone through to the last.
use Rattle.std.proofs.Common.{◌≡◌, ℕ, ◌+◌, ◌*◌, ◌≤◌, length, subst, arith}
use Rattle.vectors.specs.Triples.{triples}
use Rattle.catalogue_index.specs.Grown.{Grown}
use Rattle.catalogue_index.specs.GrownLaws.{grown-empty, grown-next, grown-all}
use Rattle.catalogue_index.specs.Index.{collected, row_of, pairs_of}
use Rattle.catalogue_index.specs.IndexSteps.{none_more, length-next, collected-part}
use Rattle.catalogue_index.proofs.fill.write.Goals as goal

pub loop-b-init : goal.loop-b-init
loop-b-init c = record { place = none_more _ _; grown = grown-empty _ _ _ }

pub write_row-next-requires-clause-b_in_bounds : goal.write_row-next-requires-clause-b_in_bounds
unfolding pairs_of
write_row-next-requires-clause-b_in_bounds c =
    let p = c.args.pairs.now in
    let f = row_of p.stars.now p.floor in
    let n = triples p.stars.now in
    let r : 12 * length (collected n f) ≤ length c.args.room.now = c.requires in
    omega (arith, length-next f c.loop-b.b, collected-part f (c.loop-b.b + 1) n (omega arith))

pub loop-b-preserved : goal.loop-b-preserved
loop-b-preserved c =
    let p = c.args.pairs.now in
    let l = c.loop-b in
    let w = c.write_row-next in
    let f = row_of p.stars.now p.floor in
    record {
      place = omega (arith, length-next f l.b);
      grown = grown-next f l.b l.invariant.grown l.invariant.place w.ensures.grown;
    }

pub returns : goal.returns
unfolding pairs_of
returns c =
    let p = c.args.pairs.now in
    let f = row_of p.stars.now p.floor in
    let e : c.loop-b.b ≡ triples p.stars.now = omega arith in
    grown-all (subst (λ (n : ℕ). Grown 0 (collected n f) c.args.room.now c.loop-b.room) e c.loop-b.invariant.grown)
