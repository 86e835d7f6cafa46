-- The bytes passed stand in the room.
use Rattle.std.proofs.Common.{take}
use Rattle.text.specs.Written.{Wrote}
use Rattle.text.proofs.word.Given as goal

abbrev pub invariant-loop-b : goal.invariant-loop-b
invariant-loop-b l = Wrote l.initial.room l.at (take l.b-index l.bytes) l.room l.next
