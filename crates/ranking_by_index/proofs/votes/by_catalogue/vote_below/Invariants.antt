-- The loop of `ranking_by_index::votes::by_catalogue::vote_below`: the counters have what the first j directions add.
use Rattle.std.proofs.Common.{◌≡◌, ℕ, ◌+◌, pos, get_or}
use Rattle.ranking_by_index.specs.votes.Span.{sum_to}
use Rattle.ranking_by_index.specs.votes.Pair.{by_catalogue, adds}
use Rattle.ranking_by_index.proofs.votes.by_catalogue.vote_below.Given as goal

abbrev pub invariant-loop-j : goal.invariant-loop-j
invariant-loop-j l =
    (c : ℕ) → get_or l.votes c 0
    ≡ get_or l.initial.votes c 0 + sum_to l.j (λ j. adds (by_catalogue l.split.floor l.split.tolerance) (get_or l.split.products.now j (pos 0)) l.stars l.split.tolerance l.split.i c j)
