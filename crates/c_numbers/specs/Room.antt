-- The room that a caller lends for an answer. Assumes nothing.
use Rattle.std.specs.Prelude.{cond, List, ◌++◌, ℕ, ◌-◌, ltb, ℤ, pos, length, drop, replicate}

-- how many numbers an answer has
abbrev pub size : ℕ
size = 64

-- the numbers, with zeros behind them
abbrev pub padded : List ℤ → List ℤ
padded xs = xs ++ replicate (size - length xs) (pos 0)

-- the room after a call: it begins with the numbers, and one that is too short stays as it was
unfoldable pub handed_over : List ℤ → List ℤ → List ℤ
handed_over numbers room = cond (ltb (length room) size) room (numbers ++ drop size room)
