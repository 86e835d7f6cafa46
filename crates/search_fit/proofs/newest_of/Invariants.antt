-- No word from place k on is a star.
use Rattle.std.proofs.Common.{ℕ, ◌<◌, ◌≤◌, get_or}
use Rattle.search_fit.proofs.newest_of.Given as goal

abbrev pub invariant-loop-k : goal.invariant-loop-k
invariant-loop-k l = (q : ℕ) → q < l.i → l.k ≤ q → l.count ≤ get_or l.chosen q 0
