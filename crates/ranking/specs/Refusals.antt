-- The ranking's refusals 6 to 10 of document 01's table, in rising number. Assumes nothing.
use Rattle.std.specs.Prelude.{Bool, not, List, [], ◌∷◌, ◌++◌, ℕ, ◌*◌, leb, ltb, ℤ}
use Rattle.refusal.specs.Numbers as number
use Rattle.refusal.specs.Table.{Row, row}
use Rattle.camera_direction.specs.List.{list_ok}
use Rattle.camera_direction.specs.ListLaws.{directions_in}
use Rattle.catalogue.specs.Format.{records_in}
use Rattle.catalogue.specs.Check as catalogue

-- the largest tolerance is 10^16
abbrev pub tolerance_ok : ℕ → Bool
tolerance_ok tolerance = leb tolerance 10000000000000000

-- the room has a word for each direction and star; a longer one serves too
abbrev pub room_short : ℕ → ℕ → ℕ → Bool
room_short count stars words = ltb words (count * stars)

-- 8, 9 and 10, beside a catalogue of so many stars and a room of so many words
unfoldable pub rows_beside : List ℤ → ℕ → ℕ → ℕ → List Row
rows_beside directions stars tolerance words =
    row (not (list_ok directions)) number.directions
    ∷ row (not (tolerance_ok tolerance)) number.demand
    ∷ row (room_short (directions_in directions) stars words) number.room
    ∷ []

-- after the catalogue's own, 6 and 7
unfoldable pub refusals_of : List ℤ → List ℕ → ℕ → ℕ → List Row
refusals_of directions bytes tolerance words = catalogue.refusals_of bytes ++ rows_beside directions (records_in bytes) tolerance words
