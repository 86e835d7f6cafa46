-- No word of the rows passed clashes.
use Rattle.std.proofs.Common.{◌≡◌, ℕ, ◌<◌, ◌*◌, false}
use Rattle.search.specs.Once.{clash_at}
use Rattle.search.proofs.lent.check.Given as goal

abbrev pub invariant-loop-i : goal.invariant-loop-i
invariant-loop-i l = (q : ℕ) → q < l.i * l.stars → clash_at l.ranking l.stars q ≡ false
