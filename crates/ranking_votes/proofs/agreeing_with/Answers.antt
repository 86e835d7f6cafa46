-- `ranking_votes::agreeing_with`: each direction adds one where it votes. Assumes nothing.
use Rattle.std.proofs.Common.{◌≡◌, ◌∙◌, ℕ, ℤ, pos, Bool, List, ◌+◌, arith, refl, ap, sym, get_or}
use mir.Val.{bool_byte, to_z, of_z}
use mir.Syntax.{w64}
use Rattle.numbers.specs.Num.{arg, back}
use Rattle.lists.specs.Number.{one, number}
use Rattle.lists.proofs.NumberLaws.{byte_one, one-most, number-next, number-most}
use Rattle.ranking_votes.specs.Progress.{agrees_by, agrees_with}
use Rattle.ranking_votes.proofs.agreeing_with.Goals as goal

pub loop-j-init : goal.loop-j-init
unfolding number
loop-j-init c = refl

-- what a turn adds, of the product itself
added :
    (list : List ℤ) (i j found tolerance : ℕ) (p q : ℤ) (voted : Bool) → q ≡ get_or list j (pos 0) → voted ≡ agrees_by i q p tolerance j → found ≡ bool_byte voted
    → found ≡ one (agrees_with list i p tolerance j)
added list i j found tolerance p q voted e v f = f ∙ byte_one voted ∙ ap one (v ∙ ap (λ (z : ℤ). agrees_by i z p tolerance j) e)

pub overflow_add-found : goal.overflow_add-found
overflow_add-found c =
    let x = c.args in
    let j = c.loop-j.j in
    let g = x.target.now in
    let p = to_z w64 (of_z w64 x.p) in
    let t = agrees_with g.products.now g.i p g.tolerance in
    let a = added g.products.now g.i j c.from-found.result g.tolerance p _ c.vote.result (back (arg {w = w64} (g.all_within.at j) tt)) c.vote.ensures c.from-found.ensures in
    omega (arith, a, c.loop-j.invariant, one-most (t j), number-most j t, g.few)

pub loop-j-preserved : goal.loop-j-preserved
loop-j-preserved c =
    let x = c.args in
    let j = c.loop-j.j in
    let g = x.target.now in
    let p = to_z w64 (of_z w64 x.p) in
    let t = agrees_with g.products.now g.i p g.tolerance in
    let a = added g.products.now g.i j c.from-found.result g.tolerance p _ c.vote.result (back (arg {w = w64} (g.all_within.at j) tt)) c.vote.ensures c.from-found.ensures in
    (λ k. c.loop-j.invariant k + a k) ∙ sym (number-next j t)
