-- The loop of `ranking_votes::products_of`: the first j products are there, and all are within 3 * 10^18.
use Rattle.std.proofs.Common.{◌≡◌, ℕ, ◌<◌, pos, length, get_or}
use Rattle.vectors.specs.Triples.{AllWithin, pair_dot}
use Rattle.ranking_votes.proofs.products_of.Given as goal

abbrev pub invariant-loop-j : goal.invariant-loop-j
invariant-loop-j l =
    (length l.products ≡ 8) × ((k : ℕ) → k < l.j → get_or l.products k (pos 0) ≡ pair_dot l.directions l.i k) × AllWithin 3000000000000000000 l.products
