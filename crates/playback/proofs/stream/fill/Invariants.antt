use Rattle.std.proofs.Common.{◌≤◌, length}
use Rattle.playback.proofs.stream.fill.Given as goal

abbrev pub invariant-loop : goal.invariant-loop
invariant-loop g l = l.done ≤ length l.room
