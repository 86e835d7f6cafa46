-- The ranking by votes. Directions and stars are lists in threes. Assumes nothing.
use Rattle.std.specs.Prelude.{List, [], ◌++◌, ℕ, zero, suc, ℤ}
use Rattle.lists.specs.Order.{ordered}
use Rattle.vectors.specs.Triples.{triples}
use Rattle.ranking_votes.specs.Votes.{votes_of}
use Rattle.ranking.specs.row.Row.{every}

-- a direction's row: the star with most votes first, and the lower record number first among equal ones
unfoldable pub row_of : List ℤ → List ℤ → ℕ → ℕ → List ℕ
row_of directions stars tolerance i = ordered every (votes_of directions stars tolerance i) (triples stars)

-- the rows of the first n directions, one after the other
unfoldable pub rows_of : List ℤ → List ℤ → ℕ → ℕ → List ℕ
rows_of directions stars tolerance zero = []
rows_of directions stars tolerance (suc n) = rows_of directions stars tolerance n ++ row_of directions stars tolerance n

-- the rows of all directions, in list order
unfoldable pub ranking_of : List ℤ → List ℤ → ℕ → List ℕ
ranking_of directions stars tolerance = rows_of directions stars tolerance (triples directions)
