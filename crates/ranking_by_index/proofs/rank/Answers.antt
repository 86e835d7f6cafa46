-- The catalogue's refusal, or what its stars give; the third promise follows from the first.
use Rattle.std.proofs.Common.{length, sym, ap, ◌∙◌, subst, w64}
use mir.ValLaws.{to_z-of_z}
use Rattle.std.proofs.lemmas.Result.{err_from_is_err_and}
use Rattle.refusal.specs.Answer.{answer_of}
use Rattle.catalogue.specs.CheckLaws.{checked_refused, checked-valid}
use Rattle.vectors.specs.Triples.{Listed}
use Rattle.catalogue_index.specs.BuildLaws.{valid-listed}
use Rattle.ranking_by_index.specs.Call.{call}
use Rattle.ranking_by_index.specs.Stars.{outcome_from, room_from}
use Rattle.ranking_by_index.proofs.StepLaws.{joined, refused-room, valid-outcome}
use Rattle.ranking_by_index.proofs.Laws.{answers, valid-room}
use Rattle.ranking_by_index.proofs.rank.Goals as goal

pub rank_from-requires : goal.rank_from-requires
rank_from-requires c =
    let v = checked-valid _ _ (sym c.in_ok-check.ensures.value) in
    subst (Listed 512) (sym (c.all.ensures ∙ c.of-stars.ensures)) (valid-listed _ v.0)

pub returns-in_err-check-clause-value : goal.returns-in_err-check-clause-value
returns-in_err-check-clause-value c =
    let a = c.args in
    let w = call a.directions.now a.catalogue.now a.index.now a.floor a.tolerance a.room.now in
    let p = err_from_is_err_and c.from_residual.result c.from_residual.ensures.1 in
    rw (p.1, p.2) (sym (joined w (checked_refused _ _ (sym c.in_err-check.ensures.value))))

pub returns-in_err-check-clause-room_after : goal.returns-in_err-check-clause-room_after
returns-in_err-check-clause-room_after c =
    let a = c.args in
    let w = call a.directions.now a.catalogue.now a.index.now a.floor a.tolerance a.room.now in
    sym (refused-room w _ (joined w (checked_refused _ _ (sym c.in_err-check.ensures.value))))

pub returns-in_err-check-clause-result_value : goal.returns-in_err-check-clause-result_value
returns-in_err-check-clause-result_value c =
    let a = c.args in
    ap answer_of (returns-in_err-check-clause-value c) ∙ answers (call a.directions.now a.catalogue.now a.index.now a.floor a.tolerance a.room.now)

pub returns-clause-value : goal.returns-clause-value
returns-clause-value c =
    let a = c.args in
    let w = call a.directions.now a.catalogue.now a.index.now a.floor a.tolerance a.room.now in
    let v = checked-valid _ _ (sym c.in_ok-check.ensures.value) in
    let lent = c.all.ensures ∙ c.of-stars.ensures in
    c.rank_from.ensures.value
    ∙ (λ i. outcome_from a.directions.now (lent i) a.index.now (to_z-of_z w64 a.floor c.ranges.floor i) a.tolerance (length a.room.now))
    ∙ sym (valid-outcome w v.0)

pub returns-clause-room_after : goal.returns-clause-room_after
returns-clause-room_after c =
    let a = c.args in
    let w = call a.directions.now a.catalogue.now a.index.now a.floor a.tolerance a.room.now in
    let v = checked-valid _ _ (sym c.in_ok-check.ensures.value) in
    let lent = c.all.ensures ∙ c.of-stars.ensures in
    c.rank_from.ensures.room_after
    ∙ (λ i. room_from a.directions.now (lent i) a.index.now (to_z-of_z w64 a.floor c.ranges.floor i) a.tolerance a.room.now)
    ∙ sym (valid-room w v.0)

pub returns-clause-result_value : goal.returns-clause-result_value
returns-clause-result_value c =
    let a = c.args in
    ap answer_of (returns-clause-value c) ∙ answers (call a.directions.now a.catalogue.now a.index.now a.floor a.tolerance a.room.now)
