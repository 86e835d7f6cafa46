-- The loop of `ranking_votes::count_star`: the counters below b have their pair with star a, the others not yet, and `own` is what star a has from its
-- pairs with the first b stars.
use Rattle.std.proofs.Common.{◌≡◌, length}
use Rattle.ranking_votes.specs.Progress.{setting, from}
use Rattle.ranking_votes.proofs.Counters.{Passed, Left}
use Rattle.ranking_votes.proofs.count_star.Given as goal

abbrev pub invariant-loop-b : goal.invariant-loop-b
invariant-loop-b l =
    Passed (setting l.target.products.now (length l.target.products.now) l.target.i l.stars l.target.tolerance) l.a l.b l.votes
    × Left (setting l.target.products.now (length l.target.products.now) l.target.i l.stars l.target.tolerance) l.a l.b l.votes
    × (l.own ≡ from (setting l.target.products.now (length l.target.products.now) l.target.i l.stars l.target.tolerance) l.b l.a)
