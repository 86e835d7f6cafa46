-- The outcome's refusal is handed on; the second promise follows from the first.
use Rattle.std.proofs.Common.{◌∙◌, ap}
use Rattle.std.proofs.lemmas.Result.{err_from_is_err_and}
use Rattle.frame_list.specs.Calls.{judgement_of, judgement_answer}
use Rattle.frame_list.specs.CallsLaws.{answers}
use Rattle.frame_list.proofs.judge.Goals as goal

pub returns-in_err-pixel_outcome-clause-value : goal.returns-in_err-pixel_outcome-clause-value
unfolding judgement_of
returns-in_err-pixel_outcome-clause-value c =
    let p = err_from_is_err_and c.from_residual.result c.from_residual.ensures.1 in
    rw (p.1, p.2, ← c.in_err-pixel_outcome.ensures.value)

pub returns-in_err-pixel_outcome-clause-result_value : goal.returns-in_err-pixel_outcome-clause-result_value
returns-in_err-pixel_outcome-clause-result_value c =
    ap judgement_answer (returns-in_err-pixel_outcome-clause-value c) ∙ answers _ _ _ _ _ _
