-- The direction of a position through a lens: refusal 19 for the lens, then 5 for the centre and the position, else that of the lens's whole focal
-- length. Assumes nothing.
use Rattle.std.specs.Prelude.{cond, not, ◌&&◌, List, [], ◌∷◌, ℤ, pos, ◌-ℤ◌}
use Rattle.refusal.specs.Numbers as number
use Rattle.refusal.specs.Table.{Row, row, first_applying, answered}
use Rattle.refusal.specs.Answer.{Answer, refused_with, accepted_with}
use Rattle.camera_direction.specs.Settings.{position_ok}
use Rattle.camera_direction.specs.Position.{toward_of}
use Rattle.camera_direction.specs.Direction.{numbers_of}
use Rattle.camera_lens.specs.declared.Lens.{Lens}
use Rattle.camera_lens.specs.Lens.{lens_ok, focal_number}
use Rattle.std.specs.Prelude.{Result, Ok, Err}
use Rattle.refusal.specs.declared.Refusal.{Refusal}
use Rattle.vectors.specs.declared.Vec3.{Vec3}

-- 19, and then 5
unfoldable pub refusals_of : ℤ → ℤ → Lens → ℤ → ℤ → List Row
refusals_of cx cy l x y = row (not (lens_ok l)) number.lens ∷ row (not (position_ok cx cy && position_ok x y)) number.settings ∷ []

unfoldable pub direction_of : ℤ → ℤ → Lens → ℤ → ℤ → Result Vec3 Refusal
direction_of cx cy l x y = answered Err (Ok (toward_of (x -ℤ cx) (y -ℤ cy) (pos (focal_number l)))) (first_applying (refusals_of cx cy l x y))

abbrev pub lens_out : Result Vec3 Refusal
lens_out = Err (record { number = number.lens; place = 0 })

-- ---- in the documents' own terms: the answer that a centre, a lens and a position must have
abbrev pub answer_for : ℤ → ℤ → Lens → ℤ → ℤ → Answer
answer_for cx cy l x y =
    cond (not (lens_ok l)) (refused_with 19 0)
    (cond (not (position_ok cx cy && position_ok x y)) (refused_with 5 0)
    (accepted_with (numbers_of (toward_of (x -ℤ cx) (y -ℤ cy) (pos (focal_number l))))))
