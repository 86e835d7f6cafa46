-- Each guide passed keeps the rule.
use Rattle.std.proofs.Common.{◌≡◌, ℕ, ◌<◌, true}
use Rattle.guider_rule.specs.Rule.{guide_ok}
use Rattle.guider.proofs.check.guider_ok.Given as goal

abbrev pub invariant-loop-i : goal.invariant-loop-i
invariant-loop-i l = (m : ℕ) → m < l.i → guide_ok l.guider m ≡ true
