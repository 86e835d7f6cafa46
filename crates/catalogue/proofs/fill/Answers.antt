-- One more number of the list is filled. Assumes nothing.
use Rattle.std.proofs.Common.{sym, ◌∙◌, arith, set}
use Rattle.std.specs.Int.{w32}
use Rattle.numbers.specs.Num.{kept}
use Rattle.catalogue.specs.Stars.{stars_of}
use Rattle.catalogue.specs.StarsLaws.{stars-length, number_at}
use Rattle.catalogue.specs.Filled.{filled_none, filled_next, filled-all}
use Rattle.catalogue.proofs.fill.Goals as goal

pub loop-k-init : goal.loop-k-init
loop-k-init c = c.requires ∙ filled_none _

pub loop-k-preserved : goal.loop-k-preserved
loop-k-preserved c =
    let bytes = c.args.bytes.now in
    let k = c.loop-k.k in
    let e = kept w32 c.component.type_inv (c.component.ensures ∙ sym (number_at bytes k (omega arith))) in
    (λ j. set (c.loop-k.invariant j) k (e j)) ∙ filled_next (stars_of bytes) k (omega (arith, stars-length bytes)) (omega arith)

pub returns : goal.returns
returns c = c.loop-k.invariant ∙ filled-all (stars_of c.args.bytes.now) c.loop-k.k (omega (arith, stars-length c.args.bytes.now))
