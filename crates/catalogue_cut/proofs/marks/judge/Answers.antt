-- The part of the array that is handed on is the stars. Assumes nothing.
use Rattle.std.specs.Prelude.{ℤ, List}
use Rattle.std.proofs.Common.{sym, ap, subst, ◌∙◌}
use Rattle.std.specs.Int.{w32, w64}
use mir.Val.{to_z, of_z}
use mir.ValLaws.{to_z-of_z}
use Rattle.vectors.specs.Triples.{Listed}
use Rattle.catalogue.specs.Stars.{stars_of}
use Rattle.catalogue_cut.specs.Flight.{is_bright}
use Rattle.catalogue_cut.specs.marks.Number.{numbers_of}
use Rattle.catalogue_cut.specs.marks.Marks.{faint_mark, AllLooked}
use Rattle.catalogue_cut.proofs.marks.JudgeLaws.{valid-listed, all_settled}
use Rattle.catalogue_cut.proofs.marks.judge.Goals as goal

pub invariant_of-pairs : goal.invariant_of-pairs
invariant_of-pairs c = record {
  listed = subst (Listed 512) (sym (c.all.ensures ∙ c.of-stars.ensures)) (valid-listed c.args.bytes.now c.requires);
}

pub returns : goal.returns
returns c =
    let x = c.args in
    let m = c.magnitudes-marks in
    let lent = c.all.ensures ∙ c.of-stars.ensures in
    let y = to_z-of_z w32 x.limit c.ranges.limit in
    let z = to_z-of_z w64 x.closeness c.ranges.closeness in
    let before = numbers_of m.result in
    let after = numbers_of c.crowd_all.new.marks in
    all_settled x.bytes.now c.requires x.limit x.closeness before after
    (λ k h. m.ensures k h ∙ ap (λ (v : ℤ). faint_mark (is_bright x.bytes.now v k)) y)
    (subst (λ (v : ℤ). AllLooked (stars_of x.bytes.now) v before after) z
    (subst (λ (l : List ℤ). AllLooked l (to_z w64 (of_z w64 x.closeness)) before after) lent c.crowd_all.ensures))
