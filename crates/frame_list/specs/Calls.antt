-- What the two calls on a frame give, on all inputs. Assumes nothing.
use Rattle.std.specs.Prelude.{List, [], ◌∷◌, ℕ, ◌*◌, ℤ, pos}
use Rattle.refusal.specs.Table.{first_applying, answered}
use Rattle.refusal.specs.Answer.{Answer, refused_with, accepted_with}
use Rattle.frame_verdict.specs.Verdict.{verdict_of, kind_number}
use Rattle.frame_verdict.specs.declared.Kind.{Kind}
use Rattle.frame_verdict.specs.declared.Kind.TheVariants.{Dark, Beaten, Edge, Lone, Measured}
use Rattle.frame_verdict.specs.declared.Verdict.{Verdict}
use Rattle.frame_list.specs.input.Input.{frame_rows, pixel_rows, pixel_answer}
use Rattle.frame_list.specs.Stars.{report_of, nothing}
use Rattle.frame_list.specs.declared.Listing.{Listing}
use Rattle.std.specs.Prelude.{Result, Ok, Err}
use Rattle.refusal.specs.declared.Refusal.{Refusal}

-- the verdict on a pixel, or the refusal
unfoldable pub judgement_of : List ℕ → ℕ → ℕ → ℕ → ℕ → ℕ → Result Verdict Refusal
judgement_of samples width height threshold row column =
    answered Err (Ok (verdict_of samples width height threshold row column)) (first_applying (pixel_rows samples width height threshold row column))

-- the frame's list and counts, or the refusal and zeros
unfoldable pub listing_of : List ℕ → ℕ → ℕ → ℕ → Listing
listing_of samples width height threshold =
    record {
      outcome = first_applying (frame_rows samples width height threshold);
      report = answered (λ r. nothing) (report_of samples width height threshold (height * width)) (first_applying (frame_rows samples width height threshold));
    }

-- ---- the verdict's answer in document 01's own terms: row, column and kind, and for a measured pixel its position and brightness

abbrev pub measured_values : Kind → List ℤ
measured_values Dark = []
measured_values Beaten = []
measured_values Edge = []
measured_values Lone = []
measured_values (Measured c) = pos c.x ∷ (pos c.y ∷ (pos c.brightness ∷ []))

abbrev pub verdict_values : Verdict → List ℤ
verdict_values v = pos v.row ∷ (pos v.column ∷ (pos (kind_number v.kind) ∷ measured_values v.kind))

abbrev pub judgement_answer : Result Verdict Refusal → Answer
judgement_answer (Err r) = refused_with r.number r.place
judgement_answer (Ok v) = accepted_with (verdict_values v)

-- the answer that a pixel of a frame must have
abbrev pub answer_for : List ℕ → ℕ → ℕ → ℕ → ℕ → ℕ → Answer
answer_for samples width height threshold row column =
    pixel_answer samples width height threshold row column (accepted_with (verdict_values (verdict_of samples width height threshold row column)))
