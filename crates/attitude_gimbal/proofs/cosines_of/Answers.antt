-- What `tested` leaves is in range; the second promise follows from the first.
use Rattle.std.proofs.Common.{sym, ap, ◌∙◌, refl}
use Rattle.std.proofs.lemmas.Result.{err_from_is_err_and}
use Rattle.std.specs.Prelude.{Ok}
use Rattle.attitude_gimbal.specs.declared.Cosines.{Cosines}
use Rattle.attitude_gimbal.specs.Cosines.{gimbal_answer}
use Rattle.attitude_gimbal.specs.Laws.{answers, by-refusal, by-acceptance, acceptable}
use Rattle.attitude_gimbal.proofs.cosines_of.Goals as goal

pub rows-requires : goal.rows-requires
rows-requires c = acceptable c.args.m c.in_ok-tested.ensures refl

pub returns-in_err-tested-clause-value : goal.returns-in_err-tested-clause-value
returns-in_err-tested-clause-value c =
    let p = err_from_is_err_and c.from_residual.result c.from_residual.ensures.1 in
    rw (p.1, p.2) (sym (by-refusal c.args.m c.in_err-tested.ensures refl))

pub returns-in_err-tested-clause-result_value : goal.returns-in_err-tested-clause-result_value
returns-in_err-tested-clause-result_value c =
    ap gimbal_answer (returns-in_err-tested-clause-value c) ∙ answers c.args.m

pub returns-clause-value : goal.returns-clause-value
returns-clause-value c =
    ap (λ (r : Cosines). Ok r) c.rows.ensures ∙ sym (by-acceptance c.args.m c.in_ok-tested.ensures refl)

pub returns-clause-result_value : goal.returns-clause-result_value
returns-clause-result_value c = ap gimbal_answer (returns-clause-value c) ∙ answers c.args.m
