-- The loop of `ranking_by_index::votes::by_catalogue::vote_row`: the counters have the votes of the pairs with the first a stars.
use Rattle.std.proofs.Common.{◌≡◌, ℕ, ◌+◌, get_or}
use Rattle.ranking_by_index.specs.votes.Span.{sum_to, in_span, meets}
use Rattle.ranking_by_index.proofs.votes.by_catalogue.vote_row.Given as goal

abbrev pub invariant-loop-a : goal.invariant-loop-a
invariant-loop-a l = (c : ℕ) → get_or l.votes c 0 ≡ get_or l.initial.votes c 0 + sum_to l.a (meets (in_span l.stars l.lower l.upper) c l.b)
