-- The second catalogue is asked where the first is valid.
use Rattle.std.proofs.Common.{sym}
use Rattle.std.proofs.lemmas.Result.{err_from_is_err_and}
use Rattle.catalogue.specs.CheckLaws.{checked_refused, checked-valid, valid-accepted}
use Rattle.catalogue_compare.proofs.CompareSteps.{first-refused, then-second}
use Rattle.catalogue_compare.proofs.judge.Goals as goal

pub returns-in_err-check : goal.returns-in_err-check
returns-in_err-check c =
    let a = c.args in
    let p = err_from_is_err_and c.from_residual.result c.from_residual.ensures.1 in
    rw (p.1, p.2) (sym (first-refused a.first.now a.second.now _ (checked_refused _ _ (sym c.in_err-check.ensures.value))))

pub returns-in_err-check-2 : goal.returns-in_err-check-2
returns-in_err-check-2 c =
    let a = c.args in
    let v = (checked-valid _ _ (sym c.in_ok-check.ensures.value)).0 in
    let p = err_from_is_err_and c.from_residual-in_err-check-2.result c.from_residual-in_err-check-2.ensures.1 in
    rw (p.1, p.2) (sym (then-second a.first.now a.second.now v (checked_refused _ _ (sym c.in_err-check-2.ensures.value))))

pub returns : goal.returns
returns c =
    let a = c.args in
    let v = (checked-valid _ _ (sym c.in_ok-check.ensures.value)).0 in
    sym (then-second a.first.now a.second.now v (valid-accepted _ (checked-valid _ _ (sym c.in_ok-check-2.ensures.value)).0))
