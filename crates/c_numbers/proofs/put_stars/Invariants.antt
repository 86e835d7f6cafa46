-- The stars passed are stored.
use Rattle.std.proofs.Common.{◌≡◌}
use Rattle.c_numbers.specs.Stars.{with_stars}
use Rattle.c_numbers.proofs.put_stars.Given as goal

abbrev pub invariant-loop-k : goal.invariant-loop-k
invariant-loop-k l = l.flat ≡ with_stars l.fn.stars l.k l.initial.flat
