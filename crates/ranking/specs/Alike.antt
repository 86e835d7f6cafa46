-- Magnitudes have no say in votes and ranking: two valid catalogues with the same identities and directions get the same votes, the same answer and the same
-- words in the room. Assumes nothing.
use Rattle.std.specs.Prelude.{◌≡◌, List, ◌++◌, ℕ, ◌*◌, ℤ, length}
use Rattle.std.proofs.Common.{ap}
use Rattle.std.proofs.Math.ListN.{drop}
use Rattle.refusal.specs.Table.{first_applying, answered}
use Rattle.camera_direction.specs.ListLaws.{directions_in}
use Rattle.catalogue.specs.Stars.{stars_of}
use Rattle.catalogue.specs.Alike.{Alike, stars-same, rows_same}
use Rattle.ranking_votes.specs.Votes.{counters_of}
use Rattle.ranking.specs.Ranking.{ranking_of}
use Rattle.ranking.specs.Refusals.{rows_beside, refusals_of}
use Rattle.ranking.specs.Room.{rank_outcome_of, room_after}

module _ {first second : List ℕ} (a : Alike first second) (directions : List ℤ) (tolerance : ℕ) where
  pub votes-same : (i : ℕ) → counters_of directions (stars_of first) tolerance i ≡ counters_of directions (stars_of second) tolerance i
  votes-same i = ap (λ (stars : List ℤ). counters_of directions stars tolerance i) (stars-same a)

  pub ranking-same : ranking_of directions (stars_of first) tolerance ≡ ranking_of directions (stars_of second) tolerance
  ranking-same = ap (λ (stars : List ℤ). ranking_of directions stars tolerance) (stars-same a)

  -- the call
  pub outcome-same : (room : List ℕ) → rank_outcome_of directions first tolerance room ≡ rank_outcome_of directions second tolerance room
  unfolding rank_outcome_of refusals_of
  outcome-same room = (λ j. first_applying (rows_same a j ++ rows_beside directions (a.count j) tolerance (length room)))

  pub room-same : (room : List ℕ) → room_after directions first tolerance room ≡ room_after directions second tolerance room
  unfolding room_after
  room-same room = (λ j. answered (λ _. room) (ranking-same j ++ drop (directions_in directions * a.count j) room) (outcome-same room j))
