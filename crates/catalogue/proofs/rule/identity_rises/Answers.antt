-- The first record has none before it. Assumes nothing.
use Rattle.std.proofs.Common.{sym}
use Rattle.catalogue.specs.RuleSteps.{rises-first}
use Rattle.catalogue.proofs.rule.identity_rises.Goals as goal

pub returns-then-star-eq0 : goal.returns-then-star-eq0
returns-then-star-eq0 c = sym (rises-first _ _ c.if-star-eq0.true)
