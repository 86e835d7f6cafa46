-- The matrix as direction cosines, 64-bit floats, or refusal 23. `lib.Ieee` has the floats and their operations: each rounds once, to the nearest float,
-- and at a tie to the even one. Assumes nothing.
use Rattle.std.specs.Prelude.{Bool, cond, ◌||◌, List, [], ◌∷◌, ◌++◌, map, ltb, ℤ, pos, Float}
use Rattle.std.specs.Float.{binary64}
use Rattle.std.specs.Float.Ieee.{of_int, div, to_bits}
use Rattle.refusal.specs.Numbers.{entry}
use Rattle.refusal.specs.Table.{Row, row, first_applying, answered}
use Rattle.refusal.specs.Answer.{Answer, refused_with, accepted_with}
use Rattle.vectors.specs.declared.Vec3.{Vec3}
use Rattle.attitude.specs.declared.Matrix.{Matrix}
use Rattle.attitude.specs.Scale.{largest_of}
use Rattle.attitude_gimbal.specs.declared.Triple.{Triple}
use Rattle.attitude_gimbal.specs.declared.Cosines.{Cosines}
use Rattle.std.specs.Prelude.{Result, Ok, Err}
use Rattle.refusal.specs.declared.Refusal.{Refusal}

-- the entry as a float over 10^9 as a float; `Exact` shows that neither cast loses anything
unfoldable pub cosine_of : ℤ → Float
cosine_of z = div binary64 (of_int binary64 z) (of_int binary64 (pos 1000000000))

abbrev pub row_of : Vec3 → Triple
row_of v = record { x = cosine_of v.x; y = cosine_of v.y; z = cosine_of v.z }

abbrev pub rows_of : Matrix → Cosines
rows_of m = record { row0 = row_of m.row0; row1 = row_of m.row1; row2 = row_of m.row2 }

-- an entry of the row lies beyond ±8 * 10^9
abbrev pub beyond : Vec3 → Bool
beyond v = ltb 8000000000 (largest_of v)

-- refusal 23: an entry of the matrix does
abbrev pub out_of_range : Matrix → Bool
out_of_range m = beyond m.row0 || (beyond m.row1 || beyond m.row2)

abbrev pub refusals_of : Matrix → List Row
refusals_of m = row (out_of_range m) entry ∷ []

unfoldable pub gimbal_of : Matrix → Result Cosines Refusal
gimbal_of m = answered Err (Ok (rows_of m)) (first_applying (refusals_of m))

-- ---- in the documents' own terms: the floats row by row, and the bits of each

abbrev pub triple_floats : Triple → List Float
triple_floats t = t.x ∷ (t.y ∷ (t.z ∷ []))

abbrev pub cosines_floats : Cosines → List Float
cosines_floats c = triple_floats c.row0 ++ (triple_floats c.row1 ++ triple_floats c.row2)

abbrev pub bits_of : List Float → List ℤ
bits_of = map (λ (x : Float). pos (to_bits binary64 x))

abbrev pub gimbal_answer : Result Cosines Refusal → Answer
gimbal_answer (Err r) = refused_with r.number r.place
gimbal_answer (Ok c) = accepted_with (bits_of (cosines_floats c))

-- the answer that a matrix must have
abbrev pub answer_for : Matrix → Answer
answer_for m = cond (out_of_range m) (refused_with 23 0) (accepted_with (bits_of (cosines_floats (rows_of m))))
