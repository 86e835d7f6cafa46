-- The loop of `ranking_votes::near::marks_of`: the places of all that agrees with one of the products passed are marked.
use Rattle.std.proofs.Common.{◌≡◌, ℕ, ◌<◌, pos, length, get_or}
use Rattle.ranking_votes.specs.Near.{Marks}
use Rattle.ranking_votes.proofs.near.marks_of.Given as goal

abbrev pub invariant-loop-q : goal.invariant-loop-q
invariant-loop-q l = (length l.near ≡ 5330) × ((m : ℕ) → m < l.q-index → Marks l.near l.tolerance (get_or l.products m (pos 0)))
