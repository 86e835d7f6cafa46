-- The call that ranks with an index: its refusals, what it answers, and what becomes of the room. Assumes nothing.
use Rattle.std.specs.Prelude.{cond, not, List, [], ◌∷◌, ◌++◌, ℕ, ℤ, length}
use Rattle.refusal.specs.Numbers as number
use Rattle.refusal.specs.Table.{Row, row, first_applying, answered}
use Rattle.refusal.specs.Answer.{Answer, refused_with, accepted_with}
use Rattle.camera_direction.specs.List.{list_ok}
use Rattle.camera_direction.specs.ListLaws.{directions_in}
use Rattle.catalogue.specs.Format.{records_in}
use Rattle.catalogue.specs.Check as catalogue
use Rattle.catalogue.specs.Stars.{stars_of}
use Rattle.ranking.specs.Refusals.{tolerance_ok, room_short, rows_beside}
use Rattle.ranking.specs.Room as plain
use Rattle.catalogue_index.specs.Check.{is_index}
use Rattle.std.specs.Prelude.{Result}
use Rattle.refusal.specs.declared.Refusal.{Refusal}

pub record Call : Type 0 where
  pub directions : List ℤ
  pub catalogue : List ℕ
  pub index : List ℕ
  pub floor : ℤ
  pub tolerance : ℕ
  pub room : List ℕ

abbrev pub call : List ℤ → List ℕ → List ℕ → ℤ → ℕ → List ℕ → Call
call d k i g t r = record { directions = d; catalogue = k; index = i; floor = g; tolerance = t; room = r }

-- 17, and behind it the ranking's own 8, 9 and 10
unfoldable pub rows_behind : List ℤ → List ℤ → ℕ → List ℕ → ℤ → ℕ → ℕ → List Row
rows_behind directions stars records index floor tolerance words =
    row (not (is_index stars floor index)) number.index ∷ rows_beside directions records tolerance words

-- after the catalogue's 6 and 7
unfoldable pub refusals_of : Call → List Row
refusals_of c =
    catalogue.refusals_of c.catalogue
    ++ rows_behind c.directions (stars_of c.catalogue) (records_in c.catalogue) c.index c.floor c.tolerance (length c.room)

-- the refusal, or that the call is accepted
unfoldable pub outcome_of : Call → Result Unit Refusal
outcome_of c = first_applying (refusals_of c)

-- an accepted call leaves what the ranking by the plain rule leaves; a refusal changes no word
unfoldable pub room_after : Call → List ℕ
room_after c = answered (λ _. c.room) (plain.room_after c.directions c.catalogue c.tolerance c.room) (outcome_of c)

-- the same in document 01's own terms: the room is the answer, and no value beside it
abbrev pub answer_for : Call → Answer
answer_for c =
    cond (not (catalogue.length_ok (length c.catalogue))) (refused_with 6 0)
    (cond (catalogue.record_broken c.catalogue) (refused_with 7 (catalogue.broken_of c.catalogue))
    (cond (not (is_index (stars_of c.catalogue) c.floor c.index)) (refused_with 17 0)
    (cond (not (list_ok c.directions)) (refused_with 8 0)
    (cond (not (tolerance_ok c.tolerance)) (refused_with 9 0)
    (cond (room_short (directions_in c.directions) (records_in c.catalogue) (length c.room)) (refused_with 10 0)
    (accepted_with []))))))
