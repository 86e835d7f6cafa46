use Rattle.std.proofs.Common.{◌≤◌, length}
use Rattle.mnemathor.proofs.fill.Given as goal

abbrev pub invariant-loop : goal.invariant-loop
invariant-loop g l = l.done ≤ length l.buffer
