-- The stars of a catalogue as numbers, three a star, and a record's identity and magnitude. Assumes nothing.
use Rattle.std.specs.Prelude.{cond, List, [], ◌∷◌, ◌++◌, ℕ, zero, suc, ◌-◌, min, ltb, ℤ, pos, length, replicate}
use Rattle.catalogue.specs.Format.{most_records, records_in, identity_of, component_of, magnitude_of}

-- how many records are decoded: no more than a catalogue may have
abbrev pub stars_in : List ℕ → ℕ
stars_in bytes = min (records_in bytes) most_records

-- x, y and z of record i
abbrev pub star_of : List ℕ → ℕ → List ℤ
star_of bytes i = component_of bytes i 0 ∷ component_of bytes i 1 ∷ component_of bytes i 2 ∷ []

-- those of the first n records, one after the other
unfoldable pub stars_to : List ℕ → ℕ → List ℤ
stars_to bytes zero = []
stars_to bytes (suc n) = stars_to bytes n ++ star_of bytes n

unfoldable pub stars_of : List ℕ → List ℤ
stars_of bytes = stars_to bytes (stars_in bytes)

-- the list at the front of 1,536 numbers, and zeros behind it
unfoldable pub padded : List ℤ → List ℤ
padded list = list ++ replicate (1536 - length list) (pos 0)

-- the identity of record i, and 0 where there is no such record
unfoldable pub identity_for : List ℕ → ℕ → ℕ
identity_for bytes i = cond (ltb i (records_in bytes)) (identity_of bytes i) 0

-- its magnitude, and 0 where there is no such record
unfoldable pub magnitude_for : List ℕ → ℕ → ℤ
magnitude_for bytes i = cond (ltb i (records_in bytes)) (magnitude_of bytes i) (pos 0)
