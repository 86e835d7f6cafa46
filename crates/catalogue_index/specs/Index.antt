-- The index of a catalogue's pairs for a floor. Stars are a list in threes. Assumes nothing.
use Rattle.std.specs.Prelude.{ℕ, zero, suc, ◌+◌, ◌*◌, cond, List, [], ◌∷◌, ◌++◌, ℤ, nat_le}
use Rattle.vectors.specs.Triples.{triples, pair_dot}
use Rattle.catalogue_index.specs.records.Format.{key_from, encoded}
use Rattle.catalogue_index.specs.records.Order.{sorted}
use Rattle.catalogue_index.specs.Raised.{raised}

-- what f gives for 0 .. n - 1, one after the other
unfoldable pub collected : ℕ → (ℕ → List ℕ) → List ℕ
collected zero f = []
collected (suc n) f = collected n f ++ f n

-- the key of the pair of the stars a and b: first the dot product, then the two record numbers
unfoldable pub key_of : List ℤ → ℕ → ℕ → ℕ
key_of stars a b = key_from (raised (pair_dot stars a b)) (65536 * a + b)

-- it stands in the index if the dot product is at least the floor, both moved up
unfoldable pub entry_of : List ℤ → ℕ → ℕ → ℕ → List ℕ
entry_of stars floor b a = cond (nat_le floor (raised (pair_dot stars a b))) (key_of stars a b ∷ []) []

-- the pairs of star b with each star before it
unfoldable pub row_of : List ℤ → ℕ → ℕ → List ℕ
row_of stars floor b = collected b (entry_of stars floor b)

-- the pairs of the first n stars
unfoldable pub pairs_of : List ℤ → ℕ → ℕ → List ℕ
pairs_of stars floor n = collected n (row_of stars floor)

-- the keys of the index, in rising order
unfoldable pub keys_of : List ℤ → ℤ → List ℕ
keys_of stars floor = sorted (pairs_of stars (raised floor) (triples stars))

-- the bytes of the index for a floor that is moved up
abbrev pub bytes_from : List ℤ → ℕ → List ℕ
bytes_from stars floor = encoded (sorted (pairs_of stars floor (triples stars)))

-- the index: its records one after the other
unfoldable pub index_of : List ℤ → ℤ → List ℕ
index_of stars floor = encoded (keys_of stars floor)
