-- The loop of `ranking_by_index::votes::by_index::first_from`: the records before `from` are below the lower end, those from `to` on are not.
use Rattle.std.proofs.Common.{ℕ, ◌-◌, ◌/◌, ◌<◌, ◌≤◌, length}
use Rattle.catalogue_index.specs.records.Format.{high_at}
use Rattle.ranking_by_index.proofs.votes.by_index.first_from.Given as goal

abbrev pub invariant-loop-from : goal.invariant-loop-from
invariant-loop-from l =
    (l.from ≤ l.to)
    × (l.to ≤ length l.index / 12)
    × ((k : ℕ) → k < l.from → high_at l.index k < l.lower)
    × ((k : ℕ) → l.to ≤ k → k < length l.index / 12 → l.lower ≤ high_at l.index k)

abbrev pub decreases-loop-from : goal.decreases-loop-from
decreases-loop-from l = l.to - l.from
