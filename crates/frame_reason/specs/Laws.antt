-- The reason is the true one: its kind is the verdict's on every input, and what it names did decide. Assumes nothing.
use Rattle.std.specs.Prelude.{Bool, ◌||◌, ◌≡◌, List, [], ◌∷◌, ◌++◌, ℕ, ◌-◌, ◌<◌, pos, take, replicate}
use Rattle.std.proofs.Math.Bool.{true, false, cond}
use Rattle.std.proofs.Math.Path.{refl}
use native.Mathlib.Omega.{arith}
use Rattle.std.proofs.Math.Dec.{ltb}
use borrow.Author.Tests.{ltb-true, ltb-false}
use Rattle.lists.specs.Contradiction.{contradiction}
use Rattle.refusal.specs.Table.{first_applying, answered}
use Rattle.refusal.specs.AnswerLaws.{answer_by, in-terms}
use Rattle.refusal.proofs.AnswerLaws.{answered-by}
use Rattle.frame_verdict.specs.Verdict.{edge}
use Rattle.frame_list.specs.input.Input.{pixel_rows}
use Rattle.frame_reason.specs.declared.Side.{Side}
use Rattle.frame_reason.specs.declared.Side.TheVariants.{Left, Right, Top, Bottom}
use Rattle.frame_reason.specs.declared.Reason.{Reason}
use Rattle.frame_reason.specs.declared.Reason.TheVariants.{Dark, Beaten, Edge, Lone, Measured}
use Rattle.frame_reason.specs.Side.{side_number, first_side}
use Rattle.frame_reason.specs.Reason.{reason_of, explanation_of, kind_in, values_in, named_by, explanation_answer, answer_for}
use Rattle.std.specs.Prelude.{Result, Ok, Err}
use Rattle.refusal.specs.declared.Refusal.{Refusal}
use Rattle.frame_verdict.specs.declared.Verdict.{Verdict}

-- ---- the kind is the verdict's

-- the verdict call's answer that an explanation stands for
abbrev pub judgement_in : ℕ → ℕ → Result Reason Refusal → Result Verdict Refusal
judgement_in row column (Err r) = Err r
judgement_in row column (Ok reason) = Ok (record { row = row; column = column; kind = kind_in reason })

-- a reason that is given is the rule's
pub given_is : (samples : List ℕ) (width height threshold row column : ℕ) (reason : Reason)
    → explanation_of samples width height threshold row column ≡ Ok reason → reason ≡ reason_of samples width height threshold row column
unfolding explanation_of
given_is samples width height threshold row column reason = go (first_applying (pixel_rows samples width height threshold row column))
  where
    go : (o : Result Unit Refusal) → answered Err (Ok (reason_of samples width height threshold row column)) o ≡ Ok reason
        → reason ≡ reason_of samples width height threshold row column
    go (Ok _) e = cc
    go (Err r) e = contradiction (cc)

-- ---- the side that is named

-- fewer than 3 columns or rows lie between the pixel and that side
abbrev pub Near : ℕ → ℕ → ℕ → ℕ → Side → Type 0
Near width height row column Left = column < 3
Near width height row column Right = width - 1 - column < 3
Near width height row column Top = row < 3
Near width height row column Bottom = height - 1 - row < 3

-- that side is too near, and none before it is
pub record FirstSide (width height row column : ℕ) (side : Side) : Type 0 where
  pub near : Near width height row column side
  pub none_before : (s : Side) → side_number s < side_number side → Near width height row column s → ⊥

module _ (width height row column : ℕ) where
  pub side-says : edge width height row column ≡ true → FirstSide width height row column (first_side width height row column)
  unfolding edge first_side
  side-says =
      go (ltb column 3) refl (ltb (width - 1 - column) 3) refl (ltb row 3) refl (ltb (height - 1 - row) 3) refl
    where
      go : (l : Bool) → ltb column 3 ≡ l → (r : Bool) → ltb (width - 1 - column) 3 ≡ r → (t : Bool) → ltb row 3 ≡ t → (b : Bool) → ltb (height - 1 - row) 3 ≡ b
          → l || (r || (t || b)) ≡ true → FirstSide width height row column (cond l Left (cond r Right (cond t Top Bottom)))
      go true p r q t u b v e = record { near = ltb-true column 3 p; none_before = λ s h n. omega arith }
      go false p true q t u b v e = record { near = ltb-true (width - 1 - column) 3 q; none_before = before }
        where
          before : (s : Side) → side_number s < 1 → Near width height row column s → ⊥
          before Left h n = let m = ltb-false column 3 p in omega arith
          before Right h n = omega arith
          before Top h n = omega arith
          before Bottom h n = omega arith
      go false p false q true u b v e = record { near = ltb-true row 3 u; none_before = before }
        where
          before : (s : Side) → side_number s < 2 → Near width height row column s → ⊥
          before Left h n = let m = ltb-false column 3 p in omega arith
          before Right h n = let m = ltb-false (width - 1 - column) 3 q in omega arith
          before Top h n = omega arith
          before Bottom h n = omega arith
      go false p false q false u true v e = record { near = ltb-true (height - 1 - row) 3 v; none_before = before }
        where
          before : (s : Side) → side_number s < 3 → Near width height row column s → ⊥
          before Left h n = let m = ltb-false column 3 p in omega arith
          before Right h n = let m = ltb-false (width - 1 - column) 3 q in omega arith
          before Top h n = let m = ltb-false row 3 u in omega arith
          before Bottom h n = omega arith
      go false p false q false u false v e = contradiction (cc)

-- ---- what a reason names

-- ---- in document 01's terms

pub told : (samples : List ℕ) (width height threshold row column : ℕ) {e : Result Reason Refusal} → e ≡ explanation_of samples width height threshold row column
    → (e ≡ explanation_of samples width height threshold row column) × (explanation_answer e ≡ answer_for samples width height threshold row column)
unfolding explanation_of answer_by
told samples width height threshold row column p =
    in-terms explanation_answer p (answered-by Err (Ok (reason_of samples width height threshold row column)) explanation_answer _ (λ r. refl) refl
    (pixel_rows samples width height threshold row column))

-- the three numbers that C is handed are what the reason names, and zeros behind
pub values-named : (reason : Reason)
    → pos (values_in reason).first ∷ (pos (values_in reason).second ∷ (pos (values_in reason).third ∷ [])) ≡ take 3 (named_by reason ++ replicate 3 (pos 0))
values-named (Dark sample threshold) = refl
values-named (Beaten r c) = refl
values-named (Edge side) = refl
values-named (Lone largest) = refl
values-named (Measured c) = refl
