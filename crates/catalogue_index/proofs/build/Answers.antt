-- The catalogue's refusal, or what its stars give; the third promise follows from the first.
use Rattle.std.proofs.Common.{length, sym, ap, ◌∙◌, subst, w64}
use mir.ValLaws.{to_z-of_z}
use Rattle.std.proofs.lemmas.Result.{err_from_is_err_and}
use Rattle.refusal.specs.Counted.{count_answer}
use Rattle.catalogue.specs.CheckLaws.{checked_refused, checked-valid}
use Rattle.vectors.specs.Triples.{Listed}
use Rattle.catalogue_index.specs.Build.{built_from, room_from}
use Rattle.catalogue_index.specs.BuildLaws.{answers, catalogue-refused, catalogue-kept, valid-listed, valid-built, valid-room}
use Rattle.catalogue_index.proofs.build.Goals as goal

pub build_from-requires : goal.build_from-requires
build_from-requires c =
    let v = checked-valid _ _ (sym c.in_ok-check.ensures.value) in
    subst (Listed 512) (sym (c.all.ensures ∙ c.of-stars.ensures)) (valid-listed _ v.0)

pub returns-in_err-check-clause-value : goal.returns-in_err-check-clause-value
returns-in_err-check-clause-value c =
    let a = c.args in
    let p = err_from_is_err_and c.from_residual.result c.from_residual.ensures.1 in
    rw (p.1, p.2) (sym (catalogue-refused a.catalogue.now a.floor _ (checked_refused _ _ (sym c.in_err-check.ensures.value)) _))

pub returns-in_err-check-clause-room_after : goal.returns-in_err-check-clause-room_after
returns-in_err-check-clause-room_after c =
    let a = c.args in
    sym (catalogue-kept a.catalogue.now a.floor _ (checked_refused _ _ (sym c.in_err-check.ensures.value)) a.room.now)

pub returns-in_err-check-clause-result_value : goal.returns-in_err-check-clause-result_value
returns-in_err-check-clause-result_value c =
    ap count_answer (returns-in_err-check-clause-value c) ∙ answers c.args.catalogue.now c.args.floor _

pub returns-clause-value : goal.returns-clause-value
returns-clause-value c =
    let a = c.args in
    let v = checked-valid _ _ (sym c.in_ok-check.ensures.value) in
    let e = c.all.ensures ∙ c.of-stars.ensures in
    c.build_from.ensures.value
    ∙ (λ i. built_from (e i) (to_z-of_z w64 a.floor c.ranges.floor i) (length a.room.now))
    ∙ sym (valid-built a.catalogue.now a.floor v.0 (length a.room.now))

pub returns-clause-room_after : goal.returns-clause-room_after
returns-clause-room_after c =
    let a = c.args in
    let v = checked-valid _ _ (sym c.in_ok-check.ensures.value) in
    let e = c.all.ensures ∙ c.of-stars.ensures in
    c.build_from.ensures.room_after
    ∙ (λ i. room_from (e i) (to_z-of_z w64 a.floor c.ranges.floor i) a.room.now)
    ∙ sym (valid-room a.catalogue.now a.floor v.0 a.room.now)

pub returns-clause-result_value : goal.returns-clause-result_value
returns-clause-result_value c =
    ap count_answer (returns-clause-value c) ∙ answers c.args.catalogue.now c.args.floor _
