-- The catalogue's refusal, or the first of the rest.
use Rattle.std.proofs.Common.{ℕ, sym, ap, ◌∙◌, arith}
use Rattle.std.proofs.lemmas.Result.{err_from_is_err_and}
use Rattle.refusal.specs.Table.{first_applying}
use Rattle.catalogue.specs.CheckLaws.{checked_refused, checked-valid, valid-accepted}
use Rattle.search.specs.Refusals.{rows_beside}
use Rattle.search.proofs.Rejected.{catalogue-refused, catalogue-valid}
use Rattle.search.proofs.refused.first_refusal.Goals as goal

pub beside-requires : goal.beside-requires
beside-requires c =
    let v = checked-valid _ _ (sym c.in_ok-stars.ensures.value) in
    omega (arith, v.0.size.most, v.1)

pub returns-in_err-stars : goal.returns-in_err-stars
returns-in_err-stars c =
    let a = c.args in
    let p = err_from_is_err_and c.from_residual.result c.from_residual.ensures.1 in
    rw (p.1, p.2)
    (sym (catalogue-refused a.directions.now a.catalogue.now a.needed a.tolerance a.ranking.now _ (checked_refused _ _ (sym c.in_err-stars.ensures.value))))

pub returns : goal.returns
returns c =
    let a = c.args in
    let v = checked-valid _ _ (sym c.in_ok-stars.ensures.value) in
    c.beside.ensures
    ∙ ap (λ (n : ℕ). first_applying (rows_beside a.directions.now n a.needed a.tolerance a.ranking.now)) v.1
    ∙ sym (catalogue-valid a.directions.now a.catalogue.now a.needed a.tolerance a.ranking.now (valid-accepted _ v.0))
