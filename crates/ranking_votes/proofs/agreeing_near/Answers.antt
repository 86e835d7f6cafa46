-- `ranking_votes::agreeing_near`: where the place of p is not marked, no product agrees with p. Assumes nothing.
use Rattle.std.proofs.Common.{arith, ◌∙◌, ℤ, sym, ap, get_or}
use mir.Syntax.{w64}
use Rattle.numbers.specs.Num.{param, back}
use Rattle.ranking_votes.specs.Near.{place_of}
use Rattle.ranking_votes.specs.NearLaws.{none-near}
use Rattle.ranking_votes.proofs.agreeing_near.Goals as goal

pub returns-then-is_far : goal.returns-then-is_far
returns-then-is_far c =
    let x = c.args in
    let g = x.target.now in
    let p = back (param {w = w64} c.ranges.p) in
    sym (none-near g.near.now g.products.now _ g.i x.p g.tolerance g.all_marked (omega arith) c.requires
    (ap (λ (q : ℤ). get_or g.near.now (place_of q) 0) (sym p) ∙ sym c.mark_at-is_far.ensures ∙ c.if-is_far.true))
