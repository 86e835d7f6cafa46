-- A text in a lent room that must have a size. Assumes nothing.
use Rattle.std.specs.Prelude.{cond, List, ◌++◌, ℕ, ltb, length, drop}

-- the text stands at the start and the rest stays; a room of fewer bytes than the size gets nothing
unfoldable pub room_with : ℕ → List ℕ → List ℕ → List ℕ
room_with size room text = cond (ltb (length room) size) room (text ++ drop (length text) room)

unfoldable pub length_in : ℕ → List ℕ → List ℕ → ℕ
length_in size room text = cond (ltb (length room) size) 0 (length text)
