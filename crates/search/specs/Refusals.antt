-- The search's refusals 6 to 12 of document 01's table, in rising number. Assumes nothing.
use Rattle.std.specs.Prelude.{Bool, true, false, not, ◌&&◌, List, [], ◌∷◌, ◌++◌, ℕ, leb, ltb, ℤ}
use Rattle.refusal.specs.Numbers as number
use Rattle.refusal.specs.Table.{Row, row, row_at}
use Rattle.camera_direction.specs.List.{list_ok}
use Rattle.camera_direction.specs.ListLaws.{directions_in}
use Rattle.catalogue.specs.Format.{records_in}
use Rattle.catalogue.specs.Check as catalogue
use Rattle.search.specs.Once.{lent_of}
use Rattle.std.specs.Prelude.{Result, Ok, Err}

-- the needed count is 3 to 8, and the tolerance 0 to 10^16
unfoldable pub demand_ok : ℕ → ℕ → Bool
demand_ok needed tolerance = leb 3 needed && leb needed 8 && leb tolerance 10000000000000000

abbrev pub is_bad : Result Unit ℕ → Bool
is_bad (Ok _) = false
is_bad (Err q) = true

abbrev pub place_of : Result Unit ℕ → ℕ
place_of (Ok _) = 0
place_of (Err q) = q

-- 8, 9, 11 and 12, beside a catalogue of so many stars
unfoldable pub rows_beside : List ℤ → ℕ → ℕ → ℕ → List ℕ → List Row
rows_beside directions stars needed tolerance words =
    row (not (list_ok directions)) number.directions
    ∷ row (not (demand_ok needed tolerance)) number.demand
    ∷ row_at (is_bad (lent_of words (directions_in directions) stars)) number.ranking (place_of (lent_of words (directions_in directions) stars))
    ∷ row (ltb (directions_in directions) needed) number.few
    ∷ []

-- after the catalogue's own, 6 and 7
unfoldable pub refusals_of : List ℤ → List ℕ → ℕ → ℕ → List ℕ → List Row
refusals_of directions bytes needed tolerance words = catalogue.refusals_of bytes ++ rows_beside directions (records_in bytes) needed tolerance words
