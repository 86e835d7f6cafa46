-- The first j dot products are there.
use Rattle.search_fit.specs.Fit.{Measured}
use Rattle.search_fit.proofs.measured.Given as goal

abbrev pub invariant-loop-j : goal.invariant-loop-j
invariant-loop-j l = Measured l.directions l.i l.j l.dots
