-- The loop of `ranking_votes::votes_for`: the first a stars are counted against each other. The first part of the target is its products.
use Rattle.std.proofs.Common.{◌≡◌, ℕ, length, get_or}
use Rattle.ranking_votes.specs.Progress.{setting, so_far}
use Rattle.ranking_votes.proofs.votes_for.Given as goal

abbrev pub invariant-loop-a : goal.invariant-loop-a
invariant-loop-a l =
    (length l.votes ≡ 512) × ((k : ℕ) → get_or l.votes k 0 ≡ so_far (setting l.target.0.now (length l.target.0.now) l.i l.ballot.stars.now l.ballot.tolerance) l.a k)
