-- One step of the walk over two catalogues. Assumes nothing.
use Rattle.std.specs.Prelude.{cond, List, ℕ, ◌+◌, ltb}
use Rattle.catalogue.specs.Format.{records_in, identity_of}
use Rattle.catalogue_compare.specs.Changes.{both_kind}

-- an identity, what the list says of it, and the next record of each catalogue; kind 0 says that it is not listed
pub record Step : Type 0 where
  pub identity : ℕ
  pub kind : ℕ
  pub first : ℕ
  pub second : ℕ

-- the identity of record i; behind the last record a number that is above every identity
unfoldable pub next_of : List ℕ → ℕ → ℕ
next_of bytes i = cond (ltb i (records_in bytes)) (identity_of bytes i) 4294967296

-- from record i of the first and record j of the second on: the lower identity, or both records where they have the same
unfoldable pub step_of : List ℕ → List ℕ → ℕ → ℕ → Step
step_of first second i j =
    cond (ltb (next_of first i) (next_of second j)) (record { identity = next_of first i; kind = 1; first = i + 1; second = j })
    (cond (ltb (next_of second j) (next_of first i)) (record { identity = next_of second j; kind = 2; first = i; second = j + 1 })
    (record { identity = next_of first i; kind = both_kind first i second j; first = i + 1; second = j + 1 }))
