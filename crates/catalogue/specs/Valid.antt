-- A valid catalogue in plain terms. Assumes nothing.
use Rattle.std.specs.Prelude.{◌≡◌, List, ℕ, suc, ◌*◌, ◌≤◌, ◌<◌, pos, ◌-ℤ◌, ◌≤ℤ◌, length}
use Rattle.numbers.specs.Within.{Within}
use Rattle.catalogue.specs.Format.{record_size, most_records, records_in, identity_of, component_of, magnitude_of}
use Rattle.catalogue.specs.Rule.{largest, square_sum, slack, squares, brightest, faintest}

-- whole records, 1 to 512
pub record LengthRule (bytes : List ℕ) : Type 0 where
  pub whole : length bytes ≡ record_size * records_in bytes
  pub some : 1 ≤ records_in bytes
  pub most : records_in bytes ≤ most_records

-- what record i has to keep by itself
pub record StarRule (bytes : List ℕ) (i : ℕ) : Type 0 where
  pub x : Within largest (component_of bytes i 0)
  pub y : Within largest (component_of bytes i 1)
  pub z : Within largest (component_of bytes i 2)
  pub norm : Within slack (squares (component_of bytes i 0) (component_of bytes i 1) (component_of bytes i 2) -ℤ pos square_sum)
  pub bright : brightest ≤ℤ magnitude_of bytes i
  pub faint : magnitude_of bytes i ≤ℤ faintest

-- and against the record before, if there is one
pub record RecordRule (bytes : List ℕ) (i : ℕ) : Type 0 where
  pub star : StarRule bytes i
  pub rises : (j : ℕ) → suc j ≡ i → identity_of bytes j < identity_of bytes i

pub record Valid (bytes : List ℕ) : Type 0 where
  pub size : LengthRule bytes
  pub stars : (i : ℕ) → i < records_in bytes → StarRule bytes i
  pub rising : (i j : ℕ) → i < j → j < records_in bytes → identity_of bytes i < identity_of bytes j

-- p is the first record that breaks its rule
pub record FirstBroken (bytes : List ℕ) (p : ℕ) : Type 0 where
  pub inside : p < records_in bytes
  pub breaks : RecordRule bytes p → ⊥
  pub before : (k : ℕ) → k < p → RecordRule bytes k
