-- What the builder of an index answers, and what becomes of the room. Assumes nothing.
use Rattle.std.specs.Prelude.{ℕ, Bool, cond, not, List, [], ◌∷◌, ◌++◌, length, drop, ℤ, pos, nat_lt}
use Rattle.refusal.specs.declared.Refusal.{Refusal}
use Rattle.refusal.specs.Numbers as number
use Rattle.refusal.specs.Table.{Row, row, first_applying, answered}
use Rattle.refusal.specs.Counted.{counted_of}
use Rattle.refusal.specs.Answer.{Answer, refused_with, accepted_with}
use Rattle.catalogue.specs.Check as catalogue
use Rattle.catalogue.specs.Stars.{stars_of}
use Rattle.catalogue_index.specs.Index.{keys_of, index_of}
use Rattle.std.specs.Prelude.{Result, Ok, Err}

-- a room of so many bytes is shorter than the index
abbrev pub room_short : List ℤ → ℤ → ℕ → Bool
room_short stars floor size = nat_lt size (length (index_of stars floor))

-- the catalogue's refusals, 6 and 7, and then 16
unfoldable pub refusals_of : List ℕ → ℤ → ℕ → List Row
refusals_of bytes floor size = catalogue.refusals_of bytes ++ (row (room_short (stars_of bytes) floor size) number.index_room ∷ [])

-- the refusal, or how many records there are
unfoldable pub built_of : List ℕ → ℤ → ℕ → Result ℕ Refusal
built_of bytes floor size = counted_of (length (keys_of (stars_of bytes) floor)) (first_applying (refusals_of bytes floor size))

-- the index at the front and the other bytes as they were; a refusal changes no byte
unfoldable pub room_after : List ℕ → ℤ → List ℕ → List ℕ
room_after bytes floor room =
    answered (λ _. room) (index_of (stars_of bytes) floor ++ drop (length (index_of (stars_of bytes) floor)) room)
    (first_applying (refusals_of bytes floor (length room)))

-- the same of decoded stars
unfoldable pub built_from : List ℤ → ℤ → ℕ → Result ℕ Refusal
built_from stars floor size =
    cond (room_short stars floor size) (Err (record { number = number.index_room; place = 0 })) (Ok (length (keys_of stars floor)))

unfoldable pub room_from : List ℤ → ℤ → List ℕ → List ℕ
room_from stars floor room =
    cond (room_short stars floor (length room)) room (index_of stars floor ++ drop (length (index_of stars floor)) room)

-- ---- in document 01's own terms

-- the answer that a catalogue, a floor and a room of so many bytes must have
abbrev pub answer_for : List ℕ → ℤ → ℕ → Answer
answer_for bytes floor size =
    cond (not (catalogue.length_ok (length bytes))) (refused_with 6 0)
    (cond (catalogue.record_broken bytes) (refused_with 7 (catalogue.broken_of bytes))
    (cond (room_short (stars_of bytes) floor size) (refused_with 16 0)
    (accepted_with (pos (length (keys_of (stars_of bytes) floor)) ∷ []))))
