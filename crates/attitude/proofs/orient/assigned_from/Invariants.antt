-- No direction passed has a star.
use Rattle.std.proofs.Common.{◌≡◌, ℕ, ◌<◌, ◌&&◌, false, leb, ltb}
use Rattle.search_theory.specs.Order.{at}
use Rattle.attitude.proofs.orient.assigned_from.Given as goal

abbrev pub invariant-loop-i : goal.invariant-loop-i
invariant-loop-i l = (j : ℕ) → j < l.i → leb l.from j && ltb (at l.words j) l.stars ≡ false
