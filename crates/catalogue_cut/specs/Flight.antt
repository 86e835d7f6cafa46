-- The flight catalogue: of a catalogue the stars within a limit of magnitude that no other star within it is close to. Every star is judged on the
-- catalogue as it came. Assumes nothing.
use Rattle.std.specs.Prelude.{Bool, not, ◌&&◌, List, [], ◌∷◌, ◌++◌, ℕ, ◌*◌, ◌-◌, eqb, ltb, ℤ, ◌+ℤ◌, ◌*ℤ◌, length, take, drop, replicate}
use Rattle.std.specs.Int.Signed.{le_z}
use Rattle.lists.specs.First.{first as first_where}
use Rattle.lists.specs.Order.{ordered}
use Rattle.catalogue.specs.Format.{record_size, records_in, component_of, magnitude_of}

-- ---- one star

-- its magnitude is at most the limit
unfoldable pub is_bright : List ℕ → ℤ → ℕ → Bool
is_bright bytes limit i = le_z (magnitude_of bytes i) limit

-- the dot product of two records' directions
unfoldable pub product_of : List ℕ → ℕ → ℕ → ℤ
product_of bytes i j =
    component_of bytes i 0 *ℤ component_of bytes j 0 +ℤ component_of bytes i 1 *ℤ component_of bytes j 1 +ℤ component_of bytes i 2 *ℤ component_of bytes j 2

-- record j is another one, within the limit, and its dot product with record i is at least the closeness
unfoldable pub crowds : List ℕ → ℤ → ℤ → ℕ → ℕ → Bool
crowds bytes limit closeness i j = not (eqb j i) && is_bright bytes limit j && le_z closeness (product_of bytes i j)

-- there is such a record
unfoldable pub is_crowded : List ℕ → ℤ → ℤ → ℕ → Bool
is_crowded bytes limit closeness i = ltb (first_where (crowds bytes limit closeness i) (records_in bytes)) (records_in bytes)

-- record i is kept: it is within the limit, and no other one within it is close to it
unfoldable pub is_kept : List ℕ → ℤ → ℤ → ℕ → Bool
is_kept bytes limit closeness i = is_bright bytes limit i && not (is_crowded bytes limit closeness i)

-- ---- all of them

-- the records that are kept, in their order: no key tells them apart
unfoldable pub kept_in : List ℕ → ℤ → ℤ → List ℕ
kept_in bytes limit closeness = ordered (is_kept bytes limit closeness) (λ _. 0) (records_in bytes)

-- the bytes of record i
unfoldable pub record_at : List ℕ → ℕ → List ℕ
record_at bytes i = take record_size (drop (record_size * i) bytes)

-- those of records, one after the other
unfoldable pub records_at : List ℕ → List ℕ → List ℕ
records_at bytes [] = []
records_at bytes (i ∷ rest) = record_at bytes i ++ records_at bytes rest

-- the flight catalogue
unfoldable pub flight_of : List ℕ → ℤ → ℤ → List ℕ
flight_of bytes limit closeness = records_at bytes (kept_in bytes limit closeness)

-- what freed room is filled with
abbrev pub freed : ℕ
freed = 255

-- the buffer after the cut: the flight catalogue at its front, and freed room behind it
unfoldable pub cut_of : List ℕ → ℤ → ℤ → List ℕ
cut_of bytes limit closeness =
    flight_of bytes limit closeness ++ replicate (length bytes - length (flight_of bytes limit closeness)) freed
