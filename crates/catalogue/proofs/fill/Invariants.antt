-- The array holds the first k numbers of the list, and zeros behind them. Assumes nothing.
use Rattle.std.proofs.Common.{◌≡◌}
use Rattle.catalogue.specs.Stars.{stars_of}
use Rattle.catalogue.specs.Filled.{filled}
use Rattle.catalogue.proofs.fill.Given as goal

abbrev pub invariant-loop-k : goal.invariant-loop-k
invariant-loop-k l = l.numbers ≡ filled (stars_of l.bytes) l.k
