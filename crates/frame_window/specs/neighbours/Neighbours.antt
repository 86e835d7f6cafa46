-- Request T-06: a pixel's eight neighbours, and the pixel that is lone among them. Assumes nothing.
use Rattle.std.specs.Prelude.{Bool, not, ◌&&◌, List, ℕ, ◌+◌, ◌-◌, ◌/◌, max, leb, eqb}
use Rattle.frame_window.specs.Window.{some_below, at}

-- at most 1 apart
abbrev pub adjacent : ℕ → ℕ → Bool
adjacent a b = leb a (b + 1) && leb b (a + 1)

-- the pixel at r, c is a neighbour of the one at row, column: at most one row and one column off, and not the pixel itself
abbrev pub beside : ℕ → ℕ → ℕ → ℕ → Bool
beside row column r c = (adjacent row r && adjacent column c) && not (eqb row r && eqb column c)

-- half the threshold, rounded down
abbrev pub half : ℕ → ℕ
half threshold = threshold / 2

-- the pixel at r, c is a neighbour and reaches half the threshold
abbrev pub lit : List ℕ → ℕ → ℕ → ℕ → ℕ → ℕ → ℕ → Bool
lit samples width threshold row column r c = beside row column r c && leb (half threshold) (at samples width r c)

-- some pixel of row r of the frame is
abbrev pub row_lit : List ℕ → ℕ → ℕ → ℕ → ℕ → ℕ → Bool
row_lit samples width threshold row column r = some_below width (λ c. lit samples width threshold row column r c)

-- none of the frame is: none of its neighbours reaches half the threshold
unfoldable pub lone : List ℕ → ℕ → ℕ → ℕ → ℕ → ℕ → Bool
lone samples width height threshold row column = not (some_below height (λ r. row_lit samples width threshold row column r))

-- ---- the largest among the eight of a pixel that has them all (`largest-is` of Laws)

-- three of a row: at column and on either side
abbrev pub largest_of_three : List ℕ → ℕ → ℕ → ℕ → ℕ
largest_of_three samples width row column = max (at samples width row (column - 1)) (max (at samples width row column) (at samples width row (column + 1)))

-- three above, three below, one on the left and one on the right
unfoldable pub largest_beside : List ℕ → ℕ → ℕ → ℕ → ℕ
largest_beside samples width row column =
    max (max (largest_of_three samples width (row - 1) column) (largest_of_three samples width (row + 1) column))
    (max (at samples width row (column - 1)) (at samples width row (column + 1)))
