-- Request T-01: why a pixel is not a star, with T-06's lone. Assumes nothing.
use Rattle.std.specs.Prelude.{cond, List, [], ◌∷◌, ℕ, ℤ, pos}
use Rattle.refusal.specs.Table.{first_applying, answered}
use Rattle.refusal.specs.Answer.{Answer, refused_with, accepted_with}
use Rattle.frame_window.specs.declared.Place.{Place}
use Rattle.std.specs.Prelude.{Option, Some, None}
use Rattle.frame_window.specs.Window.{at, first_beating}
use Rattle.frame_window.specs.neighbours.Neighbours.{lone, largest_beside}
use Rattle.frame_centroid.specs.Centroid.{centroid_of}
use Rattle.frame_verdict.specs.declared.Kind.{Kind}
use Rattle.frame_verdict.specs.declared.Kind.TheVariants as kinds
use Rattle.frame_verdict.specs.Verdict.{dark, edge, kind_number}
use Rattle.frame_list.specs.input.Input.{pixel_rows, pixel_answer}
use Rattle.frame_reason.specs.declared.Reason.{Reason}
use Rattle.frame_reason.specs.declared.Reason.TheVariants.{Dark, Beaten, Edge, Lone, Measured}
use Rattle.frame_reason.specs.declared.Values.{Values}
use Rattle.frame_reason.specs.Side.{side_number, first_side}
use Rattle.std.specs.Prelude.{Result, Ok, Err}
use Rattle.refusal.specs.declared.Refusal.{Refusal}

-- of a pixel that is neither dark nor beaten: the first broken side; lone, with the largest sample among the eight; or measured, with its centroid
unfoldable pub peak_reason : List ℕ → ℕ → ℕ → ℕ → ℕ → ℕ → Reason
peak_reason samples width height threshold row column =
    cond (edge width height row column) (Edge (first_side width height row column))
    (cond (lone samples width height threshold row column) (Lone (largest_beside samples width row column))
    (Measured (centroid_of samples width row column)))

-- the pixel that beats it first, or another reason where none does
abbrev pub unless_beaten : Reason → Option Place → Reason
unless_beaten other (Some p) = Beaten p.row p.column
unless_beaten other None = other

-- the tests in the verdict's order: dark, with the sample and the threshold; beaten, with the first pixel in row order of its window that beats it
unfoldable pub reason_of : List ℕ → ℕ → ℕ → ℕ → ℕ → ℕ → Reason
reason_of samples width height threshold row column =
    cond (dark samples width threshold row column) (Dark (at samples width row column) threshold)
    (unless_beaten (peak_reason samples width height threshold row column) (first_beating samples width height row column))

-- the reason, or the refusal
unfoldable pub explanation_of : List ℕ → ℕ → ℕ → ℕ → ℕ → ℕ → Result Reason Refusal
explanation_of samples width height threshold row column =
    answered Err (Ok (reason_of samples width height threshold row column)) (first_applying (pixel_rows samples width height threshold row column))

-- ---- a reason in numbers

-- the verdict's kind that a reason is for
abbrev pub kind_in : Reason → Kind
kind_in (Dark sample threshold) = kinds.Dark
kind_in (Beaten r c) = kinds.Beaten
kind_in (Edge side) = kinds.Edge
kind_in (Lone largest) = kinds.Lone
kind_in (Measured c) = kinds.Measured c

abbrev pub reason_number : Reason → ℕ
reason_number reason = kind_number (kind_in reason)

abbrev pub three : ℕ → ℕ → ℕ → Values
three a b c = record { first = a; second = b; third = c }

-- sample and threshold; row and column; the side; the largest sample; x, y and brightness
abbrev pub values_in : Reason → Values
values_in (Dark sample threshold) = three sample threshold 0
values_in (Beaten r c) = three r c 0
values_in (Edge side) = three (side_number side) 0 0
values_in (Lone largest) = three largest 0 0
values_in (Measured c) = three c.x c.y c.brightness

-- ---- the answer in document 01's own terms: the kind's number, and what the reason names

abbrev pub named_by : Reason → List ℤ
named_by (Dark sample threshold) = pos sample ∷ (pos threshold ∷ [])
named_by (Beaten r c) = pos r ∷ (pos c ∷ [])
named_by (Edge side) = pos (side_number side) ∷ []
named_by (Lone largest) = pos largest ∷ []
named_by (Measured c) = pos c.x ∷ (pos c.y ∷ (pos c.brightness ∷ []))

abbrev pub reason_values : Reason → List ℤ
reason_values reason = pos (reason_number reason) ∷ named_by reason

abbrev pub explanation_answer : Result Reason Refusal → Answer
explanation_answer (Err r) = refused_with r.number r.place
explanation_answer (Ok reason) = accepted_with (reason_values reason)

-- the answer that a pixel of a frame must have
abbrev pub answer_for : List ℕ → ℕ → ℕ → ℕ → ℕ → ℕ → Answer
answer_for samples width height threshold row column =
    pixel_answer samples width height threshold row column (accepted_with (reason_values (reason_of samples width height threshold row column)))
