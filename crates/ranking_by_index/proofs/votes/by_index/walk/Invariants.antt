-- The loop of `ranking_by_index::votes::by_index::walk`: the counters have what the first i records give; those before the first of the span give nothing.
use Rattle.std.proofs.Common.{◌≡◌, ℕ, ◌+◌, get_or}
use Rattle.catalogue_index.specs.records.Format.{high_at, low_at}
use Rattle.ranking_by_index.specs.votes.Span.{given, sum_to}
use Rattle.ranking_by_index.proofs.votes.by_index.walk.Given as goal

abbrev pub invariant-loop-i : goal.invariant-loop-i
invariant-loop-i l =
    (c : ℕ) → get_or l.votes c 0 ≡ get_or l.initial.votes c 0 + sum_to l.i (λ k. given l.lower l.upper c (high_at l.index k) (low_at l.index k))
