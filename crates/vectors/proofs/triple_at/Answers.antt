-- `vectors::triple_at`: each of the three numbers is that of its place. Assumes nothing.
use mir.Syntax.{w64}
use Rattle.numbers.specs.Num.{kept}
use Rattle.vectors.specs.Triples.{triple_at}
use Rattle.vectors.proofs.triple_at.Goals as goal

pub returns : goal.returns
unfolding triple_at
returns c =
    let x = c.number_at in
    let y = c.number_at-2 in
    let z = c.number_at-3 in
    λ i. record { x = kept w64 x.type_inv x.ensures i; y = kept w64 y.type_inv y.ensures i; z = kept w64 z.type_inv z.ensures i }
