-- None of the directions passed differs.
use Rattle.std.proofs.Common.{◌≡◌, false}
use Rattle.search_theory.specs.Rival.{differs}
use Rattle.search_backtrack.proofs.difference.differs.Given as goal

abbrev pub invariant-loop-i : goal.invariant-loop-i
invariant-loop-i l = differs l.stars l.i l.ours l.chosen ≡ false
