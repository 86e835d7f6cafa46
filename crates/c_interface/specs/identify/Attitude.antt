-- The numbers of an attitude: the matrix by rows. Assumes nothing.
use Rattle.std.specs.Prelude.{cond, List, eqb, ℤ, length}
use Rattle.refusal.specs.Numbers as number
use Rattle.attitude.specs.Attitude.{attitude_of}
use Rattle.c_numbers.specs.Numbers.{refused_numbers, accepted_numbers, vector_at}
use Rattle.c_numbers.specs.Matrix.{matrix_numbers}
use Rattle.std.specs.Prelude.{Result, Ok, Err}
use Rattle.refusal.specs.declared.Refusal.{Refusal}
use Rattle.attitude.specs.declared.Matrix.{Matrix}

abbrev pub attitude_numbers : Result Matrix Refusal → List ℤ
attitude_numbers (Err r) = refused_numbers r
attitude_numbers (Ok m) = accepted_numbers (matrix_numbers m)

-- the attitude of camera v1, v2 and star v1, v2, one after the other; a list of other than 12 numbers is refused with 8
unfoldable pub attitude_in : List ℤ → Result Matrix Refusal
attitude_in xs =
    cond (eqb (length xs) 12) (attitude_of (vector_at xs 0) (vector_at xs 3) (vector_at xs 6) (vector_at xs 9))
    (Err (record { number = number.directions; place = 0 }))
