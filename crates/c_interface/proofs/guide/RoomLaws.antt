-- The guider's room in plain terms: a room keeps its length, and what is accepted is the numbers themselves: none was read as another. Assumes nothing.
use Rattle.std.specs.Prelude.{◌≡◌, List, ℤ, length}
use Rattle.std.proofs.Common.{◌∙◌, length-set}
use Rattle.guider_rule.specs.declared.Guider.{Guider}
use Rattle.c_interface.specs.guide.Rooms.{with_guider}
use Rattle.c_interface.specs.guide.RoomLaws.{length-guides}

pub length-guider : (g : Guider) (room : List ℤ) → length (with_guider g room) ≡ length room
length-guider g room = length-guides g.guides 4 _ ∙ rw (length-set, length-set)
