-- What a direction through a lens is: that of the lens's whole focal length, whose laws it has. Assumes nothing.
use Rattle.std.specs.Prelude.{Bool, true, false, ◌≡◌, ℕ, ◌≤◌, ℤ, pos, ◌-ℤ◌}
use Rattle.std.proofs.Math.Bool.{not}
use Rattle.std.proofs.Math.Path.{refl, ap}
use Rattle.std.proofs.Common.{sym, ◌∙◌}
use Rattle.lists.specs.Contradiction.{contradiction}
use Rattle.refusal.specs.Table.{first_applying, answered}
use Rattle.refusal.proofs.Laws.{applying-here, applying-next}
use Rattle.refusal.specs.AnswerLaws.{answer_by}
use Rattle.refusal.proofs.AnswerLaws.{answered-by}
use Rattle.vectors.specs.declared.Vec3.{Vec3}
use Rattle.vectors.specs.Vectors.{Within3}
use Rattle.camera_direction.specs.Settings.{Between}
use Rattle.camera_direction.specs.SettingsLaws.{Position}
use Rattle.camera_direction.specs.Position.{toward_of}
use Rattle.camera_direction.specs.Direction as whole
use Rattle.camera_direction.specs.Direction.{direction_answer, out_of_range}
use Rattle.camera_direction.proofs.DirectionLaws as whole-laws
use Rattle.camera_lens.specs.declared.Lens.{Lens}
use Rattle.camera_lens.specs.Lens.{lens_ok, focal_number}
use Rattle.camera_lens.proofs.Laws.{focal-range}
use Rattle.camera_lens.specs.Stated.{settings_lens}
use Rattle.camera_lens.proofs.StatedLaws.{settings-ok, settings-number}
use Rattle.camera_direction.specs.camera.Camera.{refusals_of, direction_of, lens_out, answer_for}
use Rattle.std.specs.Prelude.{Result, Ok, Err}
use Rattle.refusal.specs.declared.Refusal.{Refusal}

module _ (cx cy : ℤ) (l : Lens) (x y : ℤ) where
  given : {o : Result Unit Refusal} → first_applying (refusals_of cx cy l x y) ≡ o → direction_of cx cy l x y
      ≡ answered Err (Ok (toward_of (x -ℤ cx) (y -ℤ cy) (pos (focal_number l)))) o
  unfolding direction_of
  given e = ap (λ (o : Result Unit Refusal). answered Err (Ok (toward_of (x -ℤ cx) (y -ℤ cy) (pos (focal_number l)))) o) e

  -- 19 comes first
  pub lens-out : lens_ok l ≡ false → direction_of cx cy l x y ≡ lens_out
  unfolding refusals_of
  lens-out e = given (applying-here _ _ (ap not e))

  -- any other lens stands for its whole focal length
  pub by_whole : lens_ok l ≡ true → direction_of cx cy l x y ≡ whole.direction_of cx cy (pos (focal_number l)) x y
  unfolding refusals_of whole.direction_of whole.refusals_of
  by_whole e = given (applying-next _ (whole.refusals_of cx cy x y) (ap not e))

  pub answers : direction_answer (direction_of cx cy l x y) ≡ answer_for cx cy l x y
  unfolding direction_of refusals_of answer_by
  answers = answered-by Err (Ok (toward_of (x -ℤ cx) (y -ℤ cy) (pos (focal_number l)))) direction_answer _ (λ r. refl) refl (refusals_of cx cy l x y)

  -- ---- in plain terms

  pub found : lens_ok l ≡ true → Position cx cy → Position x y → direction_of cx cy l x y ≡ Ok (toward_of (x -ℤ cx) (y -ℤ cy) (pos (focal_number l)))
  found e s p = by_whole e ∙ whole-laws.found cx cy (pos (focal_number l)) x y s p

  pub refused-5 : lens_ok l ≡ true → (Position cx cy → Position x y → ⊥) → direction_of cx cy l x y ≡ out_of_range
  refused-5 e n = by_whole e ∙ whole-laws.refused cx cy (pos (focal_number l)) x y n

  pub found_within : (v : Vec3) → direction_of cx cy l x y ≡ Ok v → Within3 1000000000 v
  found_within v h = go (lens_ok l) refl
    where
      go : (t : Bool) → lens_ok l ≡ t → Within3 1000000000 v
      go false e = let d : lens_out ≡ Ok v = sym (lens-out e) ∙ h in contradiction (cc)
      go true e = whole-laws.found_within cx cy (pos (focal_number l)) x y v (sym (by_whole e) ∙ h)

-- the settings file's focal length gives the directions that it gave as a whole number
pub settings-direction : (cx cy : ℤ) (f : ℕ) (x y : ℤ) → 16384 ≤ f → f ≤ 4194304 → direction_of cx cy (settings_lens f) x y ≡ whole.direction_of cx cy (pos f) x y
settings-direction cx cy f x y a b =
    by_whole cx cy (settings_lens f) x y (settings-ok f a b) ∙ ap (λ (n : ℕ). whole.direction_of cx cy (pos n) x y) (settings-number f a b)
