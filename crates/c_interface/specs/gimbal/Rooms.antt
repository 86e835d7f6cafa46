-- Matrices, rows and targets as numbers one behind the other. Assumes nothing.
use Rattle.std.specs.Prelude.{List, ◌++◌, ℕ, ◌+◌, ℤ, Float, length, drop, get_or}
use Rattle.std.specs.Float.{nan}
use Rattle.attitude.specs.declared.Matrix.{Matrix}
use Rattle.attitude_gimbal.specs.declared.Triple.{Triple}
use Rattle.attitude_gimbal.specs.declared.Cosines.{Cosines}
use Rattle.c_numbers.specs.Numbers.{vector_at}

-- nine entries by rows
abbrev pub matrix_in : List ℤ → Matrix
matrix_in xs = record { row0 = vector_at xs 0; row1 = vector_at xs 3; row2 = vector_at xs 6 }

-- three floats from a place on
abbrev pub triple_at : List Float → ℕ → Triple
triple_at xs i = record { x = get_or xs i nan; y = get_or xs (i + 1) nan; z = get_or xs (i + 2) nan }

-- nine floats by rows
abbrev pub cosines_in : List Float → Cosines
cosines_in xs = record { row0 = triple_at xs 0; row1 = triple_at xs 3; row2 = triple_at xs 6 }

-- a room with floats put at its start; the rest stays
abbrev pub written : List Float → List Float → List Float
written xs room = xs ++ drop (length xs) room
