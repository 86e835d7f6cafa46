-- The pairs of star b are gone through to the last.
use Rattle.std.proofs.Common.{◌≡◌, ℕ, ◌+◌, ◌*◌, ◌≤◌, length, ap, ◌∙◌, subst, arith}
use Rattle.catalogue_index.specs.Grown.{Grown}
use Rattle.catalogue_index.specs.GrownLaws.{grown-empty, grown-next}
use Rattle.catalogue_index.specs.Index.{collected, entry_of, row_of}
use Rattle.catalogue_index.specs.IndexSteps.{none_more, length-next, collected-part}
use Rattle.catalogue_index.proofs.fill.write_row.Goals as goal

pub loop-a-init : goal.loop-a-init
loop-a-init c = record { place = none_more _ _; grown = grown-empty _ _ _ }

pub write_pair-next-requires-clause-a_in_bounds : goal.write_pair-next-requires-clause-a_in_bounds
unfolding row_of
write_pair-next-requires-clause-a_in_bounds c =
    let x = c.args in
    let f = entry_of x.pairs.now.stars.now x.pairs.now.floor x.b in
    let r : 12 * (x.at + length (collected x.b f)) ≤ length x.room.now = c.requires.b_in_bounds in
    omega (arith, length-next f c.loop-a.a, collected-part f (c.loop-a.a + 1) x.b (omega arith))

pub loop-a-preserved : goal.loop-a-preserved
loop-a-preserved c =
    let x = c.args in
    let l = c.loop-a in
    let w = c.write_pair-next in
    let f = entry_of x.pairs.now.stars.now x.pairs.now.floor x.b in
    record {
      place = omega (arith, length-next f l.a);
      grown = grown-next f l.a l.invariant.grown l.invariant.place w.ensures.grown;
    }

pub returns-clause-value : goal.returns-clause-value
unfolding row_of
returns-clause-value c =
    let x = c.args in
    let f = entry_of x.pairs.now.stars.now x.pairs.now.floor x.b in
    let e : c.loop-a.a ≡ x.b = omega arith in
    c.loop-a.invariant.place ∙ ap (λ (n : ℕ). x.at + length (collected n f)) e

pub returns-clause-grown : goal.returns-clause-grown
unfolding row_of
returns-clause-grown c =
    let x = c.args in
    let f = entry_of x.pairs.now.stars.now x.pairs.now.floor x.b in
    let e : c.loop-a.a ≡ x.b = omega arith in
    subst (λ (n : ℕ). Grown x.at (collected n f) x.room.now c.loop-a.room) e c.loop-a.invariant.grown
