-- The loop of `ranking_votes::agreeing_with`: `found` is the number among the first j.
use Rattle.std.proofs.Common.{◌≡◌}
use Rattle.lists.specs.Number.{number}
use Rattle.ranking_votes.specs.Progress.{agrees_with}
use Rattle.ranking_votes.proofs.agreeing_with.Given as goal

abbrev pub invariant-loop-j : goal.invariant-loop-j
invariant-loop-j l = l.found ≡ number l.j (agrees_with l.target.products.now l.target.i l.p l.target.tolerance)
