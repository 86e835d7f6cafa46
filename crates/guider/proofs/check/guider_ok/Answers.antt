-- One guide that breaks the rule is enough, and that all keep it is told by all that were passed.
use Rattle.std.proofs.Common.{◌≡◌, sym, ◌∙◌, false, arith, below_more}
use borrow.Author.Tests.{le-leb, lt-leb}
use Rattle.lists.specs.Tests.{all}
use Rattle.lists.specs.TestsLaws as tests
use Rattle.guider_rule.specs.Rule.{guide_ok, guider_ok}
use Rattle.guider.specs.Identities.{same-rule}
use Rattle.guider.proofs.check.guider_ok.Goals as goal
use Rattle.guider.proofs.check.guider_ok.Goals.{then-guider-gt-WIDEST-via-then-guider-gt-WIDEST, then-guider-gt-WIDEST-via-else-guider-gt-WIDEST+then-guider-gt4}

pub loop-i-preserved : goal.loop-i-preserved
loop-i-preserved c =
    below_more _ _ c.loop-i.invariant
    (sym (c.guide_ok.ensures ∙ same-rule c.args.guider c.identities_of-identities.result c.identities_of-identities.ensures c.loop-i.i (omega arith))
    ∙ c.if-not-guide_ok.false)

pub returns-then-not-guide_ok : goal.returns-then-not-guide_ok
unfolding guider_ok
returns-then-not-guide_ok c =
    let g = c.args.guider in
    let t : all g.count (guide_ok g) ≡ false =
    tests.all-false _ _ c.loop-i.i (omega arith)
    (sym (c.guide_ok.ensures ∙ same-rule g c.identities_of-identities.result c.identities_of-identities.ensures c.loop-i.i (omega arith))
    ∙ c.if-not-guide_ok.true) in
    simp (le-leb _ _ c.if-guider-gt-WIDEST.false, le-leb _ _ c.if-guider-gt4.false, t)

pub returns-then-guider-gt-WIDEST : goal.returns-then-guider-gt-WIDEST
unfolding guider_ok
returns-then-guider-gt-WIDEST c =
    elim c.then-guider-gt-WIDEST.branch [
      | then-guider-gt-WIDEST-via-then-guider-gt-WIDEST w ↦ (simp (lt-leb _ _ w.if-guider-gt-WIDEST.true))
      | then-guider-gt-WIDEST-via-else-guider-gt-WIDEST+then-guider-gt4 w ↦
          (simp (le-leb _ _ w.if-guider-gt-WIDEST.false, lt-leb _ _ w.if-guider-gt4.true))
    ]

pub returns : goal.returns
unfolding guider_ok
returns c =
    simp (le-leb _ _ c.if-guider-gt-WIDEST.false, le-leb _ _ c.if-guider-gt4.false)
    (sym (tests.all_of _ _ (λ m h. c.loop-i.invariant m (omega arith))))
