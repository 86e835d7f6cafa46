-- `vectors::handedness::triple_product` is the product of three thousandths. Assumes nothing.
use Rattle.std.proofs.Common.{◌∙◌}
use mir.Syntax.{w64}
use Rattle.numbers.specs.Num.{kept}
use Rattle.vectors.specs.Vectors.{dot_of, cross_of}
use Rattle.vectors.specs.handedness.Handedness.{triple_of}
use Rattle.vectors.proofs.handedness.triple_product.Goals as goal

pub returns-clause-value : goal.returns-clause-value
unfolding triple_of
returns-clause-value c =
    let a = c.thousandth.ensures.value in
    let b = c.thousandth-2.ensures.value in
    let d = c.thousandth-3.ensures.value in
    kept w64 c.product.type_inv (c.product.ensures.value ∙ (λ i. dot_of (a i) (cross_of (b i) (d i))))
