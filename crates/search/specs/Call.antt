-- A valid call of the search, in plain terms. Assumes nothing.
use Rattle.std.specs.Prelude.{◌≡◌, List, ℕ, ◌*◌, ◌≤◌, ℤ, length}
use Rattle.camera_direction.specs.ListLaws.{directions_in, Directions}
use Rattle.catalogue.specs.Format.{records_in}
use Rattle.catalogue.specs.Valid.{Valid}
use Rattle.search_theory.specs.Order.{Ranked}
use Rattle.search_fit.specs.Fit.{ranking_of}

-- a list of directions, a valid catalogue, a needed count and a tolerance in range, and a ranking whose rows name each star exactly once
pub record Call (directions : List ℤ) (bytes : List ℕ) (needed tolerance : ℕ) (words : List ℕ) : Type 0 where
  pub list : Directions directions
  pub catalogue : Valid bytes
  pub least : 3 ≤ needed
  pub most : needed ≤ 8
  pub near : tolerance ≤ 10000000000000000
  pub size : length words ≡ directions_in directions * records_in bytes
  pub ranked : Ranked (ranking_of (directions_in directions) (records_in bytes) words)
