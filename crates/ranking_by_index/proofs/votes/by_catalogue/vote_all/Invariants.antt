-- The loop of `ranking_by_index::votes::by_catalogue::vote_all`: the counters have the votes of the first b stars' pairs.
use Rattle.std.proofs.Common.{◌≡◌, ℕ, ◌+◌, get_or}
use Rattle.ranking_by_index.specs.votes.Span.{sum_to, row_votes}
use Rattle.ranking_by_index.proofs.votes.by_catalogue.vote_all.Given as goal

abbrev pub invariant-loop-b : goal.invariant-loop-b
invariant-loop-b l = (c : ℕ) → get_or l.votes c 0 ≡ get_or l.initial.votes c 0 + sum_to l.b (row_votes l.stars l.lower l.upper c)
