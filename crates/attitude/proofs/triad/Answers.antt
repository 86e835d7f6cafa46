-- What `tested` leaves is in range and apart, so that both sides have axes; the second promise follows from the first.
use Rattle.std.proofs.Common.{sym, ap, ◌∙◌, rules, refl}
use Rattle.std.proofs.lemmas.Result.{err_from_is_err_and}
use Rattle.std.specs.Prelude.{Ok}
use Rattle.attitude.specs.declared.Matrix.{Matrix}
use Rattle.attitude.specs.Entries.{AxesWithin, product_of}
use Rattle.attitude.specs.Attitude.{matrix_of, attitude_answer}
use Rattle.attitude.proofs.Bounds.{axes-within}
use Rattle.attitude.proofs.Laws.{answers, by-refusal, by-acceptance, acceptable}
use Rattle.attitude.proofs.triad.Goals as goal

pub axes_of-camera-requires : goal.axes_of-camera-requires
axes_of-camera-requires c =
    let a = c.args in
    let o = acceptable a.v1 a.v2 a.w1 a.w2 c.in_ok-tested.ensures refl in
    search rules

pub axes_of-sky-requires : goal.axes_of-sky-requires
axes_of-sky-requires c =
    let a = c.args in
    let o = acceptable a.v1 a.v2 a.w1 a.w2 c.in_ok-tested.ensures refl in
    search rules

pub product-requires : goal.product-requires
product-requires c =
    let a = c.args in
    let o = (acceptable a.v1 a.v2 a.w1 a.w2 c.in_ok-tested.ensures refl).0 in
    let camera : AxesWithin c.axes_of-camera.result = rw c.axes_of-camera.ensures (axes-within _ _ (search rules)) in
    let sky : AxesWithin c.axes_of-sky.result = rw c.axes_of-sky.ensures (axes-within _ _ (search rules)) in
    search rules

pub returns-in_err-tested-clause-value : goal.returns-in_err-tested-clause-value
returns-in_err-tested-clause-value c =
    let a = c.args in
    let p = err_from_is_err_and c.from_residual.result c.from_residual.ensures.1 in
    rw (p.1, p.2) (sym (by-refusal a.v1 a.v2 a.w1 a.w2 c.in_err-tested.ensures refl))

pub returns-in_err-tested-clause-result_value : goal.returns-in_err-tested-clause-result_value
returns-in_err-tested-clause-result_value c =
    let a = c.args in
    ap attitude_answer (returns-in_err-tested-clause-value c) ∙ answers a.v1 a.v2 a.w1 a.w2

pub returns-clause-value : goal.returns-clause-value
unfolding matrix_of
returns-clause-value c =
    let a = c.args in
    let product = c.product.ensures ∙ (λ i. product_of (c.axes_of-camera.ensures i) (c.axes_of-sky.ensures i)) in
    ap (λ (m : Matrix). Ok m) product ∙ sym (by-acceptance a.v1 a.v2 a.w1 a.w2 c.in_ok-tested.ensures refl)

pub returns-clause-result_value : goal.returns-clause-result_value
returns-clause-result_value c =
    let a = c.args in
    ap attitude_answer (returns-clause-value c) ∙ answers a.v1 a.v2 a.w1 a.w2
