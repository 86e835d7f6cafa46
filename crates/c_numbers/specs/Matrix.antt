-- A matrix among the numbers, by rows. Assumes nothing.
use Rattle.std.specs.Prelude.{List, ◌++◌, ℕ, ◌+◌, ℤ}
use Rattle.attitude.specs.declared.Matrix.{Matrix}
use Rattle.c_numbers.specs.Numbers.{vector_numbers, with_vector}

abbrev pub matrix_numbers : Matrix → List ℤ
matrix_numbers m = vector_numbers m.row0 ++ (vector_numbers m.row1 ++ vector_numbers m.row2)

-- the list with a matrix's numbers from a place on
abbrev pub with_matrix : List ℤ → ℕ → Matrix → List ℤ
with_matrix xs i m = with_vector (with_vector (with_vector xs i m.row0) (i + 3) m.row1) (i + 6) m.row2
