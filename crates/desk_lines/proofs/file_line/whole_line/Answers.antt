-- No line is longer than the room, so all of it stands there.
use Rattle.std.proofs.Common.{arith}
use Rattle.text.specs.RoomLaws.{room-short, room_whole}
use Rattle.desk_lines.proofs.file_line.whole_line.Goals as goal

pub returns-then-is_short-clause-value : goal.returns-then-is_short-clause-value
returns-then-is_short-clause-value c = (room-short 128 _ _ c.if-is_short.true).0

pub returns-then-is_short-clause-room_after : goal.returns-then-is_short-clause-room_after
returns-then-is_short-clause-room_after c = (room-short 128 _ _ c.if-is_short.true).1

pub returns-clause-value : goal.returns-clause-value
returns-clause-value c = (room_whole 128 _ _ _ _ c.if-is_short.false (omega (arith, c.line.ensures.upper_bound)) c.line.ensures.wrote).0

pub returns-clause-room_after : goal.returns-clause-room_after
returns-clause-room_after c = (room_whole 128 _ _ _ _ c.if-is_short.false (omega (arith, c.line.ensures.upper_bound)) c.line.ensures.wrote).1
