-- The chain's tests give document 01's numbers and places. Assumes nothing.
use Rattle.std.specs.Prelude.{Bool, true, false, not, ◌≡◌, refl, [], ◌∷◌, ℕ}
use Rattle.std.proofs.Math.Bool.{cond}
use Rattle.std.proofs.Math.Path.{ap}
use Rattle.std.proofs.Common.{◌∙◌}
use Rattle.refusal.specs.Table.{row, first_applying, otherwise}
use Rattle.refusal.specs.Answer.{Answer, refused_with, answer_of}
use Rattle.refusal.specs.AnswerLaws.{answer_by, in-terms}
use Rattle.refusal.proofs.AnswerLaws.{outcome-by}
use Rattle.camera_lens.specs.Lens.{lens_ok}
use Rattle.camera_direction.specs.Settings.{position_ok}
use Rattle.chain.specs.declared.Settings.{Settings}
use Rattle.chain.specs.Chain.{settings_rows, demand_rows}
use Rattle.chain.specs.Admit.{unless, admit_answer}
use Rattle.std.specs.Prelude.{Result, Ok, Err}
use Rattle.refusal.specs.declared.Refusal.{Refusal}

-- an outcome before another
unless-is : (a b : Result Unit Refusal) → answer_of (otherwise a b) ≡ unless a (answer_of b)
unless-is (Ok _) b = refl
unless-is (Err r) b = refl

-- two rows before another outcome
two-rows : (p q : Bool) (m n : ℕ) (o : Result Unit Refusal) → answer_of (otherwise (first_applying (row p m ∷ row q n ∷ [])) o)
    ≡ cond p (refused_with m 0) (cond q (refused_with n 0) (answer_of o))
unfolding first_applying
two-rows true q m n o = refl
two-rows false true m n o = refl
two-rows false false m n o = refl

module _ (frame stars : Result Unit Refusal) (s : Settings) (words count : ℕ) where
  abbrev pub admitted : Result Unit Refusal
  admitted = otherwise frame (otherwise (first_applying (settings_rows s)) (otherwise stars (first_applying (demand_rows s words count))))

  answered : answer_of admitted ≡ admit_answer frame stars s words count
  unfolding settings_rows demand_rows answer_by
  answered =
      let demand = first_applying (demand_rows s words count) in
      unless-is frame (otherwise (first_applying (settings_rows s)) (otherwise stars demand))
      ∙ ap (unless frame)
      (two-rows (not (lens_ok s.lens)) (not (position_ok s.cx s.cy)) 19 5 (otherwise stars demand)
      ∙ ap (λ (a : Answer). cond (not (lens_ok s.lens)) (refused_with 19 0) (cond (not (position_ok s.cx s.cy)) (refused_with 5 0) a))
      (unless-is stars demand ∙ ap (unless stars) (outcome-by (demand_rows s words count))))

  pub admit-told : {o : Result Unit Refusal} → o ≡ admitted → (o ≡ admitted) × (answer_of o ≡ admit_answer frame stars s words count)
  admit-told e = in-terms answer_of e answered
