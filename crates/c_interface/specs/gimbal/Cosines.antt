-- The call for direction cosines. Assumes nothing.
use Rattle.std.specs.Prelude.{cond, List, [], eqb, ltb, ℤ, Float, length}
use Rattle.refusal.specs.Numbers as number
use Rattle.attitude_gimbal.specs.Cosines.{gimbal_of, cosines_floats}
use Rattle.c_numbers.specs.Numbers.{refused_numbers, accepted_numbers}
use Rattle.c_interface.specs.gimbal.Rooms.{matrix_in, written}
use Rattle.std.specs.Prelude.{Result, Ok, Err}
use Rattle.refusal.specs.declared.Refusal.{Refusal}
use Rattle.attitude_gimbal.specs.declared.Cosines.{Cosines}

-- the rows' floats, and none where the matrix is refused
abbrev pub floats_of : Result Cosines Refusal → List Float
floats_of (Err r) = []
floats_of (Ok c) = cosines_floats c

abbrev pub cosines_numbers : Result Cosines Refusal → List ℤ
cosines_numbers (Err r) = refused_numbers r
cosines_numbers (Ok c) = accepted_numbers []

-- 18 without room for nine floats, 23 for another count of entries than nine, and then the matrix's own answer
unfoldable pub cosines_of : List ℤ → List Float → Result Cosines Refusal
cosines_of xs rows =
    cond (ltb (length rows) 9) (Err (record { number = number.records_room; place = 0 }))
    (cond (eqb (length xs) 9) (gimbal_of (matrix_in xs)) (Err (record { number = number.entry; place = 0 })))

-- the room after the call: a refused one leaves it as it was
unfoldable pub cosines_room : List ℤ → List Float → List Float
cosines_room xs rows = written (floats_of (cosines_of xs rows)) rows
