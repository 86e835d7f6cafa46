-- The call for a target as the camera sees it. Assumes nothing.
use Rattle.std.specs.Prelude.{not, List, [], ◌∷◌, ℕ, eqb, ltb, Float, length}
use Rattle.refusal.specs.Numbers as number
use Rattle.refusal.specs.Table.{row, first_applying, answered}
use Rattle.attitude_gimbal.specs.Cosines.{triple_floats}
use Rattle.attitude_gimbal.specs.Target.{turned_of}
use Rattle.c_interface.specs.gimbal.Rooms.{triple_at, cosines_in, written}
use Rattle.std.specs.Prelude.{Result}
use Rattle.refusal.specs.declared.Refusal.{Refusal}

-- by the lengths of the rows, the target and the room: 8 where the target is not three floats, 18 without room for three, 23 where the rows are not nine
unfoldable pub turned_outcome : ℕ → ℕ → ℕ → Result Unit Refusal
turned_outcome rows target room = first_applying (row (not (eqb target 3)) number.directions ∷ row (ltb room 3) number.records_room
    ∷ row (not (eqb rows 9)) number.entry ∷ [])

-- the room after the call: a refused one leaves it as it was
unfoldable pub turned_room : List Float → List Float → List Float → List Float
turned_room rows target room =
    answered (λ _. room) (written (triple_floats (turned_of (cosines_in rows) (triple_at target 0))) room)
    (turned_outcome (length rows) (length target) (length room))
