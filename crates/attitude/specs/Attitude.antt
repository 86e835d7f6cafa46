-- The attitude of four vectors: camera v1 and v2, catalogue w1 and w2. Assumes nothing.
use Rattle.std.specs.Prelude.{Bool, cond, ◌||◌, List, [], ◌∷◌, ℕ, ◌^◌, ltb, ℤ}
use Rattle.refusal.specs.Numbers.{directions, close}
use Rattle.refusal.specs.Table.{Row, row, first_applying, answered}
use Rattle.refusal.specs.Answer.{Answer, refused_with, accepted_with}
use Rattle.vectors.specs.declared.Vec3.{Vec3}
use Rattle.vectors.specs.Vectors.{cross_of}
use Rattle.attitude.specs.declared.Matrix.{Matrix}
use Rattle.attitude.specs.Scale.{largest_of}
use Rattle.attitude.specs.Side.{axes_of}
use Rattle.attitude.specs.Entries.{product_of}
use Rattle.std.specs.Prelude.{Result, Ok, Err}
use Rattle.refusal.specs.declared.Refusal.{Refusal}

-- a component of v lies beyond ±10^9
abbrev pub beyond : Vec3 → Bool
beyond v = ltb 1000000000 (largest_of v)

-- refusal 8: some component of the four vectors is larger than 10^9 in size
abbrev pub out_of_range : Vec3 → Vec3 → Vec3 → Vec3 → Bool
out_of_range v1 v2 w1 w2 = beyond v1 || beyond v2 || (beyond w1 || beyond w2)

-- the cross product of a side has no magnitude of 2^30 or more
abbrev pub too_close : Vec3 → Vec3 → Bool
too_close v w = ltb (largest_of (cross_of v w)) (2 ^ 30)

-- refusal 14: so it is on the camera's side or on the catalogue's
abbrev pub either_close : Vec3 → Vec3 → Vec3 → Vec3 → Bool
either_close v1 v2 w1 w2 = too_close v1 v2 || too_close w1 w2

abbrev pub refusals_of : Vec3 → Vec3 → Vec3 → Vec3 → List Row
refusals_of v1 v2 w1 w2 = row (out_of_range v1 v2 w1 w2) directions ∷ (row (either_close v1 v2 w1 w2) close ∷ [])

-- the matrix of the two sides, where nothing is refused
unfoldable pub matrix_of : Vec3 → Vec3 → Vec3 → Vec3 → Matrix
matrix_of v1 v2 w1 w2 = product_of (axes_of v1 v2) (axes_of w1 w2)

unfoldable pub attitude_of : Vec3 → Vec3 → Vec3 → Vec3 → Result Matrix Refusal
attitude_of v1 v2 w1 w2 = answered Err (Ok (matrix_of v1 v2 w1 w2)) (first_applying (refusals_of v1 v2 w1 w2))

-- ---- in document 01's own terms: the entries row by row

abbrev pub entries_of : Matrix → List ℤ
entries_of m =
    m.row0.x ∷ (m.row0.y ∷ (m.row0.z ∷
    (m.row1.x ∷ (m.row1.y ∷ (m.row1.z ∷
    (m.row2.x ∷ (m.row2.y ∷ (m.row2.z ∷ []))))))))

abbrev pub attitude_answer : Result Matrix Refusal → Answer
attitude_answer (Err r) = refused_with r.number r.place
attitude_answer (Ok m) = accepted_with (entries_of m)

-- the answer that four vectors must have
abbrev pub answer_for : Vec3 → Vec3 → Vec3 → Vec3 → Answer
answer_for v1 v2 w1 w2 =
    cond (out_of_range v1 v2 w1 w2) (refused_with 8 0)
    (cond (either_close v1 v2 w1 w2) (refused_with 14 0)
    (accepted_with (entries_of (matrix_of v1 v2 w1 w2))))
