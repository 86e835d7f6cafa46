-- Magnitudes have no say in the index: two valid catalogues with the same identities and directions have the same index, byte for byte, the same answer of
-- the builder, and pass the same indices. Assumes nothing.
use Rattle.std.specs.Prelude.{◌≡◌, ℕ, Bool, List, [], ◌∷◌, ◌++◌, length, drop, ℤ}
use Rattle.std.proofs.Common.{ap}
use Rattle.refusal.specs.Numbers as number
use Rattle.refusal.specs.Table.{row, first_applying, answered}
use Rattle.catalogue.specs.Stars.{stars_of}
use Rattle.catalogue.specs.Alike.{Alike, stars-same, rows_same}
use Rattle.refusal.specs.Counted.{counted_of}
use Rattle.catalogue_index.specs.Index.{keys_of, index_of}
use Rattle.catalogue_index.specs.Build.{room_short, refusals_of, built_of, room_after}
use Rattle.catalogue_index.specs.Check.{is_index}

module _ {first second : List ℕ} (a : Alike first second) (floor : ℤ) where
  pub index_same : index_of (stars_of first) floor ≡ index_of (stars_of second) floor
  index_same = ap (λ (stars : List ℤ). index_of stars floor) (stars-same a)

  -- the builder
  pub built-same : (size : ℕ) → built_of first floor size ≡ built_of second floor size
  unfolding built_of refusals_of
  built-same size =
      (λ j. counted_of (length (keys_of (stars-same a j) floor)) (first_applying
      (rows_same a j ++ (row (room_short (stars-same a j) floor size) number.index_room ∷ []))))

  pub room-same : (room : List ℕ) → room_after first floor room ≡ room_after second floor room
  unfolding room_after refusals_of
  room-same room =
      (λ j.
      answered (λ _. room) (index_same j ++ drop (length (index_same j)) room)
      (first_applying (rows_same a j ++ (row (room_short (stars-same a j) floor (length room)) number.index_room ∷ []))))

  -- the test of an index that is handed in
  pub test-same : (index : List ℕ) → is_index (stars_of first) floor index ≡ is_index (stars_of second) floor index
  test-same index = ap {B = Bool} (λ (stars : List ℤ). is_index stars floor index) (stars-same a)
