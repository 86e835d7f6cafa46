-- Magnitudes have no say in the ranking by an index: two valid catalogues with the same identities and directions get the same answer and the same words in the
-- room. Assumes nothing.
use Rattle.std.specs.Prelude.{◌≡◌, List, ◌++◌, ℕ, ℤ, length}
use Rattle.refusal.specs.Table.{first_applying, answered}
use Rattle.catalogue.specs.Alike.{Alike, stars-same, rows_same}
use Rattle.ranking.specs.Alike as plain
use Rattle.ranking_by_index.specs.Call.{call, rows_behind, refusals_of, outcome_of, room_after}

module _ {first second : List ℕ} (a : Alike first second) (directions : List ℤ) (index : List ℕ) (floor : ℤ) (tolerance : ℕ) (room : List ℕ) where
  pub outcome-same : outcome_of (call directions first index floor tolerance room) ≡ outcome_of (call directions second index floor tolerance room)
  unfolding outcome_of refusals_of
  outcome-same = (λ j. first_applying (rows_same a j ++ rows_behind directions (stars-same a j) (a.count j) index floor tolerance (length room)))

  pub room-same : room_after (call directions first index floor tolerance room) ≡ room_after (call directions second index floor tolerance room)
  unfolding room_after
  room-same = (λ j. answered (λ _. room) (plain.room-same a directions tolerance room j) (outcome-same j))
