-- The test of an index that is handed in. Assumes nothing.
use Rattle.std.specs.Prelude.{◌≡◌, ℕ, zero, suc, ◌/◌, ◌%◌, ◌<◌, ◌≤◌, Bool, true, false, ◌&&◌, List, [], ◌∷◌, ℤ, ◌==◌}
use Rattle.vectors.specs.Triples.{triples, pair_dot}
use Rattle.catalogue_index.specs.records.Format.{high_at, low_at, key_from, key_at}
use Rattle.catalogue_index.specs.Raised.{raised}
use Rattle.catalogue_index.specs.Index.{index_of}

-- two lists are the same, number by number
unfoldable pub equal : List ℕ → List ℕ → Bool
equal [] [] = true
equal [] (y ∷ ys) = false
equal (x ∷ xs) [] = false
equal (x ∷ xs) (y ∷ ys) = x == y && equal xs ys

-- the bytes are those of the index
unfoldable pub is_index : List ℤ → ℤ → List ℕ → Bool
is_index stars floor bytes = equal bytes (index_of stars floor)

-- ---- the rule of one record, by which the test goes

-- a test says whether something holds
pub record Says (t : Bool) (P : Type 0) : Type 0 where
  pub holds : t ≡ true → P
  pub fails : t ≡ false → P → ⊥

-- the record's numbers are those of a pair, and the dot product is the pair's
pub record PairOk (stars : List ℤ) (floor high low : ℕ) : Type 0 where
  pub order : low / 65536 < low % 65536
  pub inside : low % 65536 < triples stars
  pub taken : floor ≤ high
  pub is : high ≡ raised (pair_dot stars (low / 65536) (low % 65536))

-- and the key is above the one before
pub record RecordOk (stars : List ℤ) (floor : ℕ) (bytes : List ℕ) (i : ℕ) : Type 0 where
  pub pair : PairOk stars floor (high_at bytes i) (low_at bytes i)
  pub rises : (j : ℕ) → suc j ≡ i → key_at bytes j < key_at bytes i

-- ---- the same of a record whose parts were read, behind a key

-- the key before record i; before the first it is 0, which is below every pair's
abbrev pub key_before : List ℕ → ℕ → ℕ
key_before bytes zero = 0
key_before bytes (suc i) = key_at bytes i

pub record Follows (stars : List ℤ) (floor before high low : ℕ) : Type 0 where
  pub pair : PairOk stars floor high low
  pub rises : before < key_from high low
