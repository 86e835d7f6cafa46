-- What a lens's focal length is to a direction: the first refusal, or a focal length that a direction may be asked for.
use Rattle.std.specs.Prelude.{◌≡◌, ℤ, Result, Ok, Err}
use Rattle.std.proofs.Common.{sym, ap, ◌∙◌, subst}
use Rattle.refusal.specs.declared.Refusal.{Refusal}
use Rattle.vectors.specs.declared.Vec3.{Vec3}
use Rattle.camera_lens.specs.declared.Lens.{Lens}
use Rattle.camera_lens.specs.Lens.{focal_of}
use Rattle.camera_lens.specs.Laws.{whole-given, refused-given}
use Rattle.camera_direction.specs.Settings.{Between}
use Rattle.camera_direction.specs.Direction as whole
use Rattle.camera_direction.specs.Direction.{direction_answer}
use Rattle.camera_direction.specs.camera.Camera.{direction_of, answer_for}
use Rattle.camera_direction.specs.camera.Laws.{focal-between}
use Rattle.camera_direction.proofs.camera.Laws.{lens-out, by_whole, answers}

module _ (l : Lens) where
  pub between : (focal : ℤ) → Ok focal ≡ focal_of l → Between 16384 4194304 focal
  between focal h = let k = whole-given l focal (sym h) in subst (Between 16384 4194304) (sym k.1) (focal-between l k.0)

  module _ (cx cy x y : ℤ) where
    pub lens_first : (r : Refusal) → Err r ≡ focal_of l → Err r ≡ direction_of cx cy l x y
    lens_first r h = let k = refused-given l r (sym h) in ap (λ (s : Refusal). Err s) k.1 ∙ sym (lens-out cx cy l x y k.0)

    pub by_focal : (focal : ℤ) → Ok focal ≡ focal_of l → whole.direction_of cx cy focal x y ≡ direction_of cx cy l x y
    by_focal focal h =
        let k = whole-given l focal (sym h) in
        ap (λ (f : ℤ). whole.direction_of cx cy f x y) k.1 ∙ sym (by_whole cx cy l x y k.0)

    pub told_by : (d : Result Vec3 Refusal) → d ≡ direction_of cx cy l x y → direction_answer d ≡ answer_for cx cy l x y
    told_by d h = ap direction_answer h ∙ answers cx cy l x y
