-- Document 01, "Frame and pixel verdicts": a frame's samples, a pixel's window, and which pixel beats which. Assumes nothing.
use Rattle.std.specs.Prelude.{Bool, true, false, cond, ◌&&◌, List, ℕ, zero, suc, ◌+◌, ◌*◌, get_or, ltb, leb, Option, Some, None}
use Rattle.lists.specs.First.{first}
use Rattle.frame_window.specs.declared.Place.{Place}

-- whether p holds of some number below n
unfoldable pub some_below : ℕ → (ℕ → Bool) → Bool
some_below zero p = false
some_below (suc n) p = cond (p n) true (some_below n p)

-- the sample in that row and column: rows follow each other from the top, and columns from the left
abbrev pub at : List ℕ → ℕ → ℕ → ℕ → ℕ
at samples width row column = get_or samples (row * width + column) 0

-- at most 3 apart
abbrev pub near : ℕ → ℕ → Bool
near a b = leb a (b + 3) && leb b (a + 3)

-- the pixel at r, c stands in a row above, or in the same row and further left
unfoldable pub earlier : ℕ → ℕ → ℕ → ℕ → Bool
earlier row column r c = cond (ltb r row) true (cond (ltb row r) false (ltb c column))

-- the pixel at r, c is earlier and at least as large, or is not earlier and larger. The pixel itself is neither
unfoldable pub beats : List ℕ → ℕ → ℕ → ℕ → ℕ → ℕ → Bool
beats samples width row column r c =
    cond (earlier row column r c) (leb (at samples width row column) (at samples width r c)) (ltb (at samples width row column) (at samples width r c))

-- the pixel at r, c is no more than 3 rows and 3 columns off, and beats the one at row, column
abbrev pub hits : List ℕ → ℕ → ℕ → ℕ → ℕ → ℕ → Bool
hits samples width row column r c = (near row r && near column c) && beats samples width row column r c

-- some pixel of row r of the frame does
abbrev pub row_hits : List ℕ → ℕ → ℕ → ℕ → ℕ → Bool
row_hits samples width row column r = some_below width (λ c. hits samples width row column r c)

-- some pixel of the frame does
unfoldable pub beaten : List ℕ → ℕ → ℕ → ℕ → ℕ → Bool
beaten samples width height row column = some_below height (λ r. row_hits samples width row column r)

-- the first row of the frame that has one, and the first column of a row r
abbrev pub beating_row : List ℕ → ℕ → ℕ → ℕ → ℕ → ℕ
beating_row samples width height row column = first (λ r. row_hits samples width row column r) height

abbrev pub beating_column : List ℕ → ℕ → ℕ → ℕ → ℕ → ℕ
beating_column samples width row column r = first (λ c. hits samples width row column r c) width

abbrev pub place_of : ℕ → ℕ → Place
place_of row column = record { row = row; column = column }

-- the first in row order of the pixels that beat it, where it is beaten
unfoldable pub first_beating : List ℕ → ℕ → ℕ → ℕ → ℕ → Option Place
first_beating samples width height row column =
    cond (beaten samples width height row column)
    (Some (place_of (beating_row samples width height row column) (beating_column samples width row column (beating_row samples width height row column))))
    None
