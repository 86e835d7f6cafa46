-- The guides passed are as after the frame.
use Rattle.std.proofs.Common.{◌≡◌}
use Rattle.guider_rule.specs.Guider.{guides_after}
use Rattle.guider.proofs.boxes.guides_after.Given as goal

abbrev pub invariant-loop-i : goal.invariant-loop-i
invariant-loop-i l = l.guides ≡ guides_after l.fn.boxes.guider l.fn.boxes.report l.i
