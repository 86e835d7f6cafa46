-- What cutting a catalogue answers, and what becomes of the buffer. Assumes nothing.
use Rattle.std.specs.Prelude.{Bool, cond, not, List, [], ◌∷◌, ◌++◌, ℕ, eqb, ℤ, pos, length}
use Rattle.refusal.specs.Numbers as number
use Rattle.refusal.specs.Table.{Row, row, first_applying, answered}
use Rattle.refusal.specs.Counted.{counted_of}
use Rattle.refusal.specs.Answer.{Answer, refused_with, accepted_with}
use Rattle.catalogue.specs.Check.{length_ok, record_broken, broken_of}
use Rattle.catalogue.specs.Check as catalogue
use Rattle.catalogue_cut.specs.Flight.{kept_in, cut_of}
use Rattle.std.specs.Prelude.{Result, Ok, Err}
use Rattle.refusal.specs.declared.Refusal.{Refusal}

-- nothing would be kept
abbrev pub none_kept : List ℕ → ℤ → ℤ → Bool
none_kept bytes limit closeness = eqb (length (kept_in bytes limit closeness)) 0

-- the catalogue's refusals, 6 and 7, and then 21
unfoldable pub refusals_of : List ℕ → ℤ → ℤ → List Row
refusals_of bytes limit closeness = catalogue.refusals_of bytes ++ (row (none_kept bytes limit closeness) number.nothing_kept ∷ [])

-- the refusal, or how many records are kept
unfoldable pub shortened_of : List ℕ → ℤ → ℤ → Result ℕ Refusal
shortened_of bytes limit closeness = counted_of (length (kept_in bytes limit closeness)) (first_applying (refusals_of bytes limit closeness))

-- the kept records at the front, and 255 behind them; a refusal changes no byte
unfoldable pub buffer_after : List ℕ → ℤ → ℤ → List ℕ
buffer_after bytes limit closeness = answered (λ _. bytes) (cut_of bytes limit closeness) (first_applying (refusals_of bytes limit closeness))

-- the same of a catalogue that is valid
unfoldable pub shortened_from : List ℕ → ℤ → ℤ → Result ℕ Refusal
shortened_from bytes limit closeness =
    cond (none_kept bytes limit closeness) (Err (record { number = number.nothing_kept; place = 0 })) (Ok (length (kept_in bytes limit closeness)))

unfoldable pub buffer_from : List ℕ → ℤ → ℤ → List ℕ
buffer_from bytes limit closeness = cond (none_kept bytes limit closeness) bytes (cut_of bytes limit closeness)

-- ---- in the documents' own terms

-- the answer that a catalogue, a limit and a closeness must have
abbrev pub answer_for : List ℕ → ℤ → ℤ → Answer
answer_for bytes limit closeness =
    cond (not (length_ok (length bytes))) (refused_with 6 0)
    (cond (record_broken bytes) (refused_with 7 (broken_of bytes))
    (cond (none_kept bytes limit closeness) (refused_with 21 0)
    (accepted_with (pos (length (kept_in bytes limit closeness)) ∷ []))))
