-- The outcome's refusal is handed on; the second promise follows from the first.
use Rattle.std.proofs.lemmas.Result.{err_from_is_err_and}
use Rattle.frame_reason.specs.Reason.{explanation_of}
use Rattle.frame_reason.specs.Laws.{told}
use Rattle.frame_reason.proofs.explain.Goals as goal

pub returns-in_err-pixel_outcome-clause-value : goal.returns-in_err-pixel_outcome-clause-value
unfolding explanation_of
returns-in_err-pixel_outcome-clause-value c =
    let p = err_from_is_err_and c.from_residual.result c.from_residual.ensures.1 in
    rw (p.1, p.2, ← c.in_err-pixel_outcome.ensures.value)

pub returns-in_err-pixel_outcome-clause-result_value : goal.returns-in_err-pixel_outcome-clause-result_value
returns-in_err-pixel_outcome-clause-result_value c =
    let a = c.args in
    (told a.samples.now a.width a.height a.threshold a.row a.column (returns-in_err-pixel_outcome-clause-value c)).1
