-- The catalogue's refusal, or what its stars say of the index.
use Rattle.std.proofs.Common.{sym, ◌∙◌, subst, w64}
use mir.ValLaws.{to_z-of_z}
use Rattle.std.proofs.lemmas.Result.{err_from_is_err_and}
use Rattle.refusal.specs.Table.{first_applying}
use Rattle.catalogue.specs.CheckLaws.{checked_refused, checked-valid, valid-accepted}
use Rattle.vectors.specs.Triples.{Listed}
use Rattle.catalogue_index.specs.BuildLaws.{valid-listed}
use Rattle.chain_by_index.specs.Chain.{index_rows}
use Rattle.chain_by_index.specs.Laws.{stars-joined}
use Rattle.chain_by_index.proofs.admit.stars_outcome.Goals as goal

pub index_outcome-requires : goal.index_outcome-requires
index_outcome-requires c =
    let v = checked-valid _ _ (sym c.in_ok-check.ensures.value) in
    subst (Listed 512) (sym (c.all.ensures ∙ c.of-stars.ensures)) (valid-listed _ v.0)

pub returns-in_err-check : goal.returns-in_err-check
returns-in_err-check c =
    let a = c.args in
    let p = err_from_is_err_and c.from_residual.result c.from_residual.ensures.1 in
    rw (p.1, p.2) (sym (stars-joined a.bytes.now a.index.now a.floor (checked_refused _ _ (sym c.in_err-check.ensures.value))))

pub returns : goal.returns
returns c =
    let a = c.args in
    let v = checked-valid _ _ (sym c.in_ok-check.ensures.value) in
    let e = c.all.ensures ∙ c.of-stars.ensures in
    c.index_outcome.ensures
    ∙ (λ i. first_applying (index_rows (e i) a.index.now (to_z-of_z w64 a.floor c.ranges.floor i)))
    ∙ sym (stars-joined a.bytes.now a.index.now a.floor (valid-accepted a.bytes.now v.0))
