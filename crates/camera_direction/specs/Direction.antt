-- The direction of a position for a whole focal length, or refusal 5. Assumes nothing.
use Rattle.std.specs.Prelude.{cond, not, ◌&&◌, List, [], ◌∷◌, ℤ, ◌-ℤ◌}
use Rattle.refusal.specs.Numbers.{settings}
use Rattle.refusal.specs.Table.{Row, row, first_applying, answered}
use Rattle.refusal.specs.Answer.{Answer, refused_with, accepted_with}
use Rattle.vectors.specs.declared.Vec3.{Vec3}
use Rattle.camera_direction.specs.Settings.{position_ok}
use Rattle.camera_direction.specs.Position.{toward_of}
use Rattle.std.specs.Prelude.{Result, Ok, Err}
use Rattle.refusal.specs.declared.Refusal.{Refusal}

-- the centre or the position is out of range
unfoldable pub refusals_of : ℤ → ℤ → ℤ → ℤ → List Row
refusals_of cx cy x y = row (not (position_ok cx cy && position_ok x y)) settings ∷ []

-- X and Y are the position as seen from the centre
unfoldable pub direction_of : ℤ → ℤ → ℤ → ℤ → ℤ → Result Vec3 Refusal
direction_of cx cy f x y = answered Err (Ok (toward_of (x -ℤ cx) (y -ℤ cy) f)) (first_applying (refusals_of cx cy x y))

abbrev pub out_of_range : Result Vec3 Refusal
out_of_range = Err (record { number = settings; place = 0 })

-- ---- in document 01's own terms

abbrev pub numbers_of : Vec3 → List ℤ
numbers_of v = v.x ∷ (v.y ∷ (v.z ∷ []))

abbrev pub direction_answer : Result Vec3 Refusal → Answer
direction_answer (Err r) = refused_with r.number r.place
direction_answer (Ok v) = accepted_with (numbers_of v)

-- the answer that a centre, a focal length and a position must have
abbrev pub answer_for : ℤ → ℤ → ℤ → ℤ → ℤ → Answer
answer_for cx cy f x y =
    cond (not (position_ok cx cy && position_ok x y)) (refused_with 5 0)
    (accepted_with (numbers_of (toward_of (x -ℤ cx) (y -ℤ cy) f)))
