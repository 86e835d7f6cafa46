-- The settings file has 32 bytes, and its numbers have no sign and their high byte first: four of 2 bytes, three of 4, then 4 bytes that nothing reads, and the
-- tolerance of 8. The third of 4 bytes is the focal length in 1/256 pixel. Another length is refused with 1. Assumes nothing.
use Rattle.std.specs.Prelude.{cond, List, [], ◌∷◌, ℕ, eqb, ℤ, pos, length}
use Rattle.refusal.specs.Numbers.{size}
use Rattle.refusal.specs.Answer.{Answer, refused_with, accepted_with}
use Rattle.camera_lens.specs.Lens.{focal_number}
use Rattle.camera_lens.specs.Stated.{settings_lens}
use Rattle.chain.specs.declared.Settings.{Settings}
use Rattle.words.specs.Number.{number_at}
use Rattle.std.specs.Prelude.{Result, Ok, Err}
use Rattle.refusal.specs.declared.Refusal.{Refusal}

unfoldable pub settings_of : List ℕ → Settings
settings_of bytes =
    record {
      width = number_at bytes 0 2;
      height = number_at bytes 2 2;
      threshold = number_at bytes 4 2;
      needed = number_at bytes 6 2;
      cx = pos (number_at bytes 8 4);
      cy = pos (number_at bytes 12 4);
      lens = settings_lens (number_at bytes 16 4);
      tolerance = number_at bytes 24 8;
    }

unfoldable pub reading_of : List ℕ → Result Settings Refusal
reading_of bytes = cond (eqb (length bytes) 32) (Ok (settings_of bytes)) (Err (record { number = size; place = 0 }))

-- ---- in document 01's own terms: width, height, threshold, needed count, cx, cy, F and T

abbrev pub values_in : Settings → List ℤ
values_in s =
    pos s.width
    ∷ pos s.height
    ∷ pos s.threshold
    ∷ pos s.needed
    ∷ s.cx
    ∷ s.cy
    ∷ pos (focal_number s.lens)
    ∷ pos s.tolerance
    ∷ []

abbrev pub reading_answer : Result Settings Refusal → Answer
reading_answer (Err r) = refused_with r.number r.place
reading_answer (Ok s) = accepted_with (values_in s)

-- the answer that a file must have
abbrev pub answer_for : List ℕ → Answer
answer_for bytes =
    cond (eqb (length bytes) 32)
    (accepted_with (
    pos (number_at bytes 0 2)
    ∷ pos (number_at bytes 2 2)
    ∷ pos (number_at bytes 4 2)
    ∷ pos (number_at bytes 6 2)
    ∷ pos (number_at bytes 8 4)
    ∷ pos (number_at bytes 12 4)
    ∷ pos (number_at bytes 16 4)
    ∷ pos (number_at bytes 24 8)
    ∷ []
    ))
    (refused_with 1 0)
