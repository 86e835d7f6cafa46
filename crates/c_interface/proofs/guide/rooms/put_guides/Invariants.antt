-- The guides passed are put, and the room keeps its length.
use Rattle.std.proofs.Common.{◌≡◌}
use Rattle.c_interface.specs.guide.Rooms.{with_guides}
use Rattle.c_interface.proofs.guide.rooms.put_guides.Given as goal

abbrev pub invariant-loop-i : goal.invariant-loop-i
invariant-loop-i l = l.room ≡ with_guides l.fn.guides l.i l.initial.room
