-- What comparing two catalogues answers, and what becomes of the room. Assumes nothing.
use Rattle.std.specs.Prelude.{Bool, cond, not, List, [], ◌∷◌, ◌++◌, ℕ, ltb, pos, length}
use Rattle.refusal.specs.Numbers as number
use Rattle.refusal.specs.Table.{Row, row, first_applying, answered}
use Rattle.refusal.specs.Answer.{Answer, refused_with, accepted_with}
use Rattle.catalogue.specs.Check.{length_ok, record_broken, broken_of}
use Rattle.catalogue.specs.Check as catalogue
use Rattle.refusal.specs.Counted.{counted_of}
use Rattle.catalogue_compare.specs.Changes.{listed, changes_of}
use Rattle.words.specs.Front.{at_front}
use Rattle.std.specs.Prelude.{Result}
use Rattle.refusal.specs.declared.Refusal.{Refusal}

-- a room of so many bytes is shorter than the list
abbrev pub room_short : List ℕ → List ℕ → ℕ → Bool
room_short first second size = ltb size (length (changes_of first second))

-- 6 and 7 of the first, then 6 and 7 of the second
abbrev pub catalogues_refused : List ℕ → List ℕ → List Row
catalogues_refused first second = catalogue.refusals_of first ++ catalogue.refusals_of second

-- and then 20
unfoldable pub refusals_of : List ℕ → List ℕ → ℕ → List Row
refusals_of first second size = catalogues_refused first second ++ (row (room_short first second size) number.changes_room ∷ [])

-- the refusal, or how many records the list has
unfoldable pub compared_of : List ℕ → List ℕ → ℕ → Result ℕ Refusal
compared_of first second size = counted_of (length (listed first second)) (first_applying (refusals_of first second size))

-- the list at the front and the other bytes as they were; a refusal changes no byte
unfoldable pub room_after : List ℕ → List ℕ → List ℕ → List ℕ
room_after first second room = answered (λ _. room) (at_front (changes_of first second) room) (first_applying (refusals_of first second (length room)))

-- ---- in the documents' own terms

-- the answer that two catalogues and a room of so many bytes must have
abbrev pub answer_for : List ℕ → List ℕ → ℕ → Answer
answer_for first second size =
    cond (not (length_ok (length first))) (refused_with 6 0)
    (cond (record_broken first) (refused_with 7 (broken_of first))
    (cond (not (length_ok (length second))) (refused_with 6 0)
    (cond (record_broken second) (refused_with 7 (broken_of second))
    (cond (room_short first second size) (refused_with 20 0)
    (accepted_with (pos (length (listed first second)) ∷ []))))))
