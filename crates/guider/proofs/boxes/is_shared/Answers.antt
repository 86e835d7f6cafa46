-- One that claims the star is enough, and none is told by all that were passed.
use Rattle.std.proofs.Common.{◌≡◌, ◌<◌, sym, ap, ◌∙◌, not, ◌&&◌, eqb, length, take, length-take-le, arith}
use Rattle.std.proofs.lemmas.List.{get_or-take}
use borrow.Author.Tests.{ne_eqb}
use Rattle.lists.specs.TestsLaws as tests
use Rattle.guider_rule.specs.Guider.{no_guide, claimed, claims, shared}
use Rattle.guider_rule.specs.declared.Guide.{Guide}
use Rattle.guider.proofs.boxes.is_shared.Goals as goal

pub returns-then-is_claimed : goal.returns-then-is_claimed
unfolding shared
returns-then-is_claimed c =
    let g = c.args.boxes.now.guider in
    let j = c.loop-j.j in
    let n : length (take g.count g.guides) ≡ g.count = length-take-le g.count g.guides (omega (arith, c.args.boxes.now.few)) in
    let h : j < g.count = omega arith in
    let e = get_or-take g.count g.guides j no_guide h in
    sym (tests.some_of g.count (λ m. not (eqb m c.args.i) && claims g c.args.star m) j h
    (tests.and_both _ _ (ap not (ne_eqb _ _ c.if-j-i.true)) (ap (λ (guide : Guide). claimed g.half guide c.args.star) (sym e) ∙ sym c.is_claimed.ensures ∙ c.if-is_claimed.true)))

pub returns : goal.returns
unfolding shared
returns c = sym (tests.some-none _ _ (λ m h. c.loop-j.invariant m (omega arith)))
