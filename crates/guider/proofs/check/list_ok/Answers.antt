-- After the test of its length, the list is as its stars are.
use Rattle.std.proofs.Common.{◌∙◌, arith}
use borrow.Author.Tests.{le-leb, lt-leb}
use Rattle.frame_centroid.specs.declared.Centroid.{Centroid}
use Rattle.frame_list.specs.Stars.{nought}
use Rattle.guider_rule.specs.Rule.{on_frame, list_ok}
use Rattle.guider.proofs.Listed.{all-listed}
use Rattle.guider.proofs.check.list_ok.Goals as goal

pub returns-then-is_long : goal.returns-then-is_long
unfolding list_ok
returns-then-is_long c = simp (lt-leb _ _ c.if-is_long.true)

pub returns : goal.returns
unfolding list_ok
returns c =
    simp (le-leb _ _ c.if-is_long.false)
    (c.all_on_frame.ensures ∙ all-listed (λ (s : Centroid). on_frame s.x s.y) c.args.report.stars nought c.args.report.count (omega arith))
