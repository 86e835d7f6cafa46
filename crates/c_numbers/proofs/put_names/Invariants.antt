-- The stars of the directions passed are stored.
use Rattle.std.proofs.Common.{◌≡◌}
use Rattle.c_numbers.specs.Stars.{with_names}
use Rattle.c_numbers.proofs.put_names.Given as goal

abbrev pub invariant-loop-i : goal.invariant-loop-i
invariant-loop-i l = l.flat ≡ with_names l.at l.fn.words l.directions l.stars l.i l.initial.flat
