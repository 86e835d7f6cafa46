-- The catalogue's refusal, or what a valid one gives; the third promise follows from the first.
use Rattle.std.proofs.Common.{sym, ap, ◌∙◌, w32, w64}
use mir.ValLaws.{to_z-of_z}
use Rattle.std.proofs.lemmas.Result.{err_from_is_err_and}
use Rattle.refusal.specs.Counted.{count_answer}
use Rattle.catalogue.specs.CheckLaws.{checked_refused, checked-valid}
use Rattle.catalogue_cut.specs.Cut.{shortened_from, buffer_from}
use Rattle.catalogue_cut.proofs.CutSteps.{answers, catalogue-refused, catalogue-kept, valid-shortened, valid-buffer}
use Rattle.catalogue_cut.proofs.cut.Goals as goal

pub cut_valid-requires : goal.cut_valid-requires
cut_valid-requires c = (checked-valid _ _ (sym c.in_ok-check.ensures.value)).0

pub returns-in_err-check-clause-value : goal.returns-in_err-check-clause-value
returns-in_err-check-clause-value c =
    let a = c.args in
    let p = err_from_is_err_and c.from_residual.result c.from_residual.ensures.1 in
    rw (p.1, p.2) (sym (catalogue-refused a.bytes.now a.limit a.closeness _ (checked_refused _ _ (sym c.in_err-check.ensures.value))))

pub returns-in_err-check-clause-bytes_after : goal.returns-in_err-check-clause-bytes_after
returns-in_err-check-clause-bytes_after c =
    let a = c.args in
    sym (catalogue-kept a.bytes.now a.limit a.closeness _ (checked_refused _ _ (sym c.in_err-check.ensures.value)))

pub returns-in_err-check-clause-result_value : goal.returns-in_err-check-clause-result_value
returns-in_err-check-clause-result_value c =
    let a = c.args in
    ap count_answer (returns-in_err-check-clause-value c) ∙ answers a.bytes.now a.limit a.closeness

pub returns-clause-value : goal.returns-clause-value
returns-clause-value c =
    let a = c.args in
    let v = (checked-valid _ _ (sym c.in_ok-check.ensures.value)).0 in
    c.cut_valid.ensures.value
    ∙ (λ i. shortened_from a.bytes.now (to_z-of_z w32 a.limit c.ranges.limit i) (to_z-of_z w64 a.closeness c.ranges.closeness i))
    ∙ sym (valid-shortened a.bytes.now a.limit a.closeness v)

pub returns-clause-bytes_after : goal.returns-clause-bytes_after
returns-clause-bytes_after c =
    let a = c.args in
    let v = (checked-valid _ _ (sym c.in_ok-check.ensures.value)).0 in
    c.cut_valid.ensures.bytes_after
    ∙ (λ i. buffer_from a.bytes.now (to_z-of_z w32 a.limit c.ranges.limit i) (to_z-of_z w64 a.closeness c.ranges.closeness i))
    ∙ sym (valid-buffer a.bytes.now a.limit a.closeness v)

pub returns-clause-result_value : goal.returns-clause-result_value
returns-clause-result_value c =
    let a = c.args in
    ap count_answer (returns-clause-value c) ∙ answers a.bytes.now a.limit a.closeness
