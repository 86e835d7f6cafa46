-- The directions of the listed positions, as they are listed: three numbers each, one after the other. Assumes nothing.
use Rattle.std.specs.Prelude.{List, [], ◌∷◌, ℕ, ◌≤◌, ℤ, pos, get_or}
use Rattle.vectors.specs.declared.Vec3.{Vec3}
use Rattle.frame_centroid.specs.declared.Centroid.{Centroid}
use Rattle.chain.specs.declared.Settings.{Settings}
use Rattle.camera_direction.specs.camera.Camera.{direction_of}
use Rattle.std.specs.Prelude.{Result, Ok, Err}
use Rattle.refusal.specs.declared.Refusal.{Refusal}

-- the vector of a direction that was found
abbrev pub vector_of : Result Vec3 Refusal → Vec3
vector_of (Err r) = record { x = pos 0; y = pos 0; z = pos 0 }
vector_of (Ok v) = v

unfoldable pub sight_of : Settings → Centroid → Vec3
sight_of s star = vector_of (direction_of s.cx s.cy s.lens (pos star.x) (pos star.y))

abbrev pub numbers_of : Vec3 → List ℤ → List ℤ
numbers_of v rest = v.x ∷ (v.y ∷ (v.z ∷ rest))

unfoldable pub directions_of : Settings → List Centroid → List ℤ
directions_of s [] = []
directions_of s (star ∷ stars) = numbers_of (sight_of s star) (directions_of s stars)

-- a position on the largest frame
pub record InFrame (star : Centroid) : Type 0 where
  pub across : star.x ≤ 261888
  pub down : star.y ≤ 261888

abbrev pub nowhere : Centroid
nowhere = record { x = 0; y = 0; brightness = 0 }

pub record AllInFrame (stars : List Centroid) : Type 0 where
  pub at : (k : ℕ) → InFrame (get_or stars k nowhere)
