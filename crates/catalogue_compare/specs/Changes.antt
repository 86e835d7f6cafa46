-- What changed between two catalogues: the identities that only the first has, only the second has, or that both have with different
-- numbers, by rising identity. Assumes nothing.
use Rattle.std.specs.Prelude.{Bool, cond, not, List, [], ◌∷◌, ◌++◌, ℕ, ◌+◌, ◌*◌, ◌-◌, ◌/◌, eqb, ltb}
use Rattle.lists.specs.First.{first as first_where}
use Rattle.lists.specs.Order.{ordered}
use Rattle.words.specs.Number.{number_at}
use Rattle.words.specs.Bytes.{bytes_of}
use Rattle.catalogue.specs.Format.{record_size, records_in, identity_of}

-- ---- one identity

-- the first record that has an identity, or the number of records where none has it
unfoldable pub place_of : List ℕ → ℕ → ℕ
place_of bytes identity = first_where (λ i. eqb (identity_of bytes i) identity) (records_in bytes)

-- whether a record has it
abbrev pub has : List ℕ → ℕ → Bool
has bytes identity = ltb (place_of bytes identity) (records_in bytes)

-- how many words a record has behind its identity
abbrev pub fields : ℕ
fields = record_size / 4 - 1

-- word k of them, of record i
abbrev pub field_of : List ℕ → ℕ → ℕ → ℕ
field_of bytes i k = number_at bytes (record_size * i + (4 + 4 * k)) 4

-- whether one of them is another in record i of the one than in record j of the other
unfoldable pub differ : List ℕ → ℕ → List ℕ → ℕ → Bool
differ first i second j = ltb (first_where (λ k. not (eqb (field_of first i k) (field_of second j k))) fields) fields

-- what the list says of two records with the same identity: 3 where they differ, and nothing where not
abbrev pub both_kind : List ℕ → ℕ → List ℕ → ℕ → ℕ
both_kind first i second j = cond (differ first i second j) 3 0

-- what it says of an identity: 1, only the first has it; 2, only the second; 3, both, with different words. 0, it is not listed
unfoldable pub kind_of : List ℕ → List ℕ → ℕ → ℕ
kind_of first second identity =
    cond (has first identity)
    (cond (has second identity) (both_kind first (place_of first identity) second (place_of second identity)) 1)
    (cond (has second identity) 2 0)

-- ---- the list

abbrev pub is_listed : List ℕ → List ℕ → ℕ → Bool
is_listed first second identity = not (eqb (kind_of first second identity) 0)

-- the identities below n that are listed, rising: no key tells them apart
abbrev pub listed_below : List ℕ → List ℕ → ℕ → List ℕ
listed_below first second n = ordered (is_listed first second) (λ _. 0) n

-- all of them: an identity has four bytes
unfoldable pub listed : List ℕ → List ℕ → List ℕ
listed first second = listed_below first second 4294967296

-- a record of the list, eight bytes: the identity, and what is said of it
unfoldable pub record_of : ℕ → ℕ → List ℕ
record_of identity kind = bytes_of 4 identity ++ bytes_of 4 kind

-- the records of identities, one after the other
unfoldable pub encoded : (ℕ → ℕ) → List ℕ → List ℕ
encoded kind [] = []
encoded kind (identity ∷ rest) = record_of identity (kind identity) ++ encoded kind rest

-- the list's bytes
unfoldable pub changes_of : List ℕ → List ℕ → List ℕ
changes_of first second = encoded (kind_of first second) (listed first second)
