-- The loop of `ranking_by_index::votes::by_index::vote_above`: the counters have what the first j directions add.
use Rattle.std.proofs.Common.{◌≡◌, ℕ, ℤ, List, ◌+◌, pos, get_or}
use Rattle.vectors.specs.Triples.{Listed}
use Rattle.catalogue_index.specs.Index.{bytes_from}
use Rattle.ranking_by_index.specs.votes.Span.{sum_to}
use Rattle.ranking_by_index.specs.votes.Pair.{by_index, adds}
use Rattle.ranking_by_index.proofs.votes.by_index.vote_above.Given as goal

abbrev pub invariant-loop-j : goal.invariant-loop-j
invariant-loop-j l =
    (stars : List ℤ) → Listed 512 stars → l.index ≡ bytes_from stars l.split.floor
    → (c : ℕ) → get_or l.votes c 0
    ≡ get_or l.initial.votes c 0 + sum_to l.j (λ j. adds (by_index l.split.floor l.split.tolerance) (get_or l.split.products.now j (pos 0)) stars l.split.tolerance l.split.i c j)
