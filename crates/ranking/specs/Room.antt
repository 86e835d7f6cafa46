-- What the call that ranks answers, and what becomes of the room. Assumes nothing.
use Rattle.std.specs.Prelude.{cond, not, List, [], ◌++◌, ℕ, ◌*◌, ℤ, length, drop}
use Rattle.refusal.specs.Table.{first_applying, answered}
use Rattle.refusal.specs.Answer.{Answer, refused_with, accepted_with}
use Rattle.camera_direction.specs.List.{list_ok}
use Rattle.camera_direction.specs.ListLaws.{directions_in}
use Rattle.catalogue.specs.Format.{records_in}
use Rattle.catalogue.specs.Check as catalogue
use Rattle.catalogue.specs.Stars.{stars_of}
use Rattle.ranking.specs.Ranking.{ranking_of}
use Rattle.ranking.specs.Refusals.{tolerance_ok, room_short, refusals_of}
use Rattle.std.specs.Prelude.{Result}
use Rattle.refusal.specs.declared.Refusal.{Refusal}

-- the refusal, or that the call is accepted
unfoldable pub rank_outcome_of : List ℤ → List ℕ → ℕ → List ℕ → Result Unit Refusal
rank_outcome_of directions bytes tolerance room = first_applying (refusals_of directions bytes tolerance (length room))

-- the ranking at the front and the other words as they were; a refusal changes no word
unfoldable pub room_after : List ℤ → List ℕ → ℕ → List ℕ → List ℕ
room_after directions bytes tolerance room =
    answered (λ _. room) (ranking_of directions (stars_of bytes) tolerance ++ drop (directions_in directions * records_in bytes) room)
    (rank_outcome_of directions bytes tolerance room)

-- the same in document 01's own terms: the room is the answer, and no value beside it
abbrev pub answer_for : List ℤ → List ℕ → ℕ → List ℕ → Answer
answer_for directions bytes tolerance room =
    cond (not (catalogue.length_ok (length bytes))) (refused_with 6 0)
    (cond (catalogue.record_broken bytes) (refused_with 7 (catalogue.broken_of bytes))
    (cond (not (list_ok directions)) (refused_with 8 0)
    (cond (not (tolerance_ok tolerance)) (refused_with 9 0)
    (cond (room_short (directions_in directions) (records_in bytes) (length room)) (refused_with 10 0)
    (accepted_with [])))))
