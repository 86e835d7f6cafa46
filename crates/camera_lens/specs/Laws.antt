-- What the focal length of a lens comes to: when it is refused, and which whole number it is. Assumes nothing.
use Rattle.std.specs.Prelude.{◌≡◌, ℕ, ◌+◌, ◌*◌, ◌<◌, ◌≤◌, Bool, true, false, not, ◌↔◌, ℤ, pos, Float}
use Rattle.std.proofs.Math.Path.{refl, ap}
use Rattle.std.proofs.Common.{sym, ◌∙◌}
use Rattle.std.specs.Float.Ieee.Positive.{num, den}
use Rattle.lists.specs.Contradiction.{contradiction}
use Rattle.refusal.specs.declared.Refusal.{Refusal}
use Rattle.refusal.specs.Numbers.{lens}
use Rattle.refusal.specs.Table.{first_applying, answered}
use Rattle.refusal.specs.Laws.{Silent}
use Rattle.refusal.proofs.Laws.{applying-here, silent-accepted}
use Rattle.refusal.specs.AnswerLaws.{answer_by}
use Rattle.refusal.proofs.AnswerLaws.{answered-by}
use Rattle.camera_lens.specs.declared.Lens.{Lens}
use Rattle.camera_lens.specs.Lens.{lens_ok, focal_number, refusals_of, focal_of, out_of_range, focal_answer, answer_for}
use Rattle.std.specs.Prelude.{Result, Ok, Err}

-- ---- which answer is given

module _ (l : Lens) where
  given : {o : Result Unit Refusal} → first_applying (refusals_of l) ≡ o → focal_of l ≡ answered Err (Ok (pos (focal_number l))) o
  unfolding focal_of
  given e = ap (λ (o : Result Unit Refusal). answered Err (Ok (pos (focal_number l))) o) e

  pub lens-out : lens_ok l ≡ false → focal_of l ≡ out_of_range
  lens-out e = given (applying-here _ _ (ap not e))

  pub lens-in : lens_ok l ≡ true → focal_of l ≡ Ok (pos (focal_number l))
  unfolding Silent
  lens-in e = given (silent-accepted _ (ap not e, tt))

  -- what a whole number, and what a refusal, that is handed over says of the lens
  pub whole-given : (f : ℤ) → focal_of l ≡ Ok f → (lens_ok l ≡ true) × (f ≡ pos (focal_number l))
  whole-given f h = go (lens_ok l) refl
    where
      go : (t : Bool) → lens_ok l ≡ t → (lens_ok l ≡ true) × (f ≡ pos (focal_number l))
      go true e = (e, let d : Ok (pos (focal_number l)) ≡ Ok f = sym (lens-in e) ∙ h in cc)
      go false e = let d : out_of_range ≡ Ok f = sym (lens-out e) ∙ h in contradiction (cc)

  pub refused-given : (r : Refusal) → focal_of l ≡ Err r → (lens_ok l ≡ false) × (r ≡ record { number = lens; place = 0 })
  refused-given r h = go (lens_ok l) refl
    where
      go : (t : Bool) → lens_ok l ≡ t → (lens_ok l ≡ false) × (r ≡ record { number = lens; place = 0 })
      go true e = let d : Ok (pos (focal_number l)) ≡ Err r = sym (lens-in e) ∙ h in contradiction (cc)
      go false e = (e, let d : out_of_range ≡ Err r = sym (lens-out e) ∙ h in cc)

  -- so 19 is given exactly where a number is not above zero or 256 q is out of range
  pub refused-19 : (focal_of l ≡ out_of_range) ↔ (lens_ok l ≡ false)
  refused-19 = (λ h. (refused-given _ h).0, lens-out)

  pub answers : focal_answer (focal_of l) ≡ answer_for l
  unfolding focal_of answer_by
  answers = answered-by Err (Ok (pos (focal_number l))) focal_answer _ (λ r. refl) refl (refusals_of l)

-- ---- which whole number: `num q` / `den q` is the number q itself, as a fraction

-- n is at most 256 q, and below it by less than one
pub record Below (n : ℕ) (q : Float) : Type 0 where
  pub at_most : n * den q ≤ 256 * num q
  pub within-one : 256 * num q < (n + 1) * den q

-- ---- the same of a lens that is not refused

-- ---- the pixel form: in range it is above zero
