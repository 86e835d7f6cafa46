-- What the list of changes is, in plain terms, for any two valid catalogues: an identity is listed with 1 exactly if some record of the first has it
-- and none of the second does, with 2 the other way round, and with 3 exactly if both have it and x, y, z or the magnitude differs; identities rise
-- strictly, so that each stands once; and nothing else is listed. Assumes nothing.
use Rattle.std.specs.Prelude.{◌≡◌, List, ℕ, ◌+◌, ◌*◌, ◌≤◌, ◌<◌, length}
use Rattle.catalogue.specs.Format.{records_in, identity_of}
use Rattle.catalogue_compare.specs.Read.{identity_at, kind_at}
use Rattle.catalogue_compare.specs.Fields.{Apart}

-- ---- the words of these laws

-- some record of a catalogue has an identity
pub record Has (bytes : List ℕ) (x : ℕ) : Type 0 where
  pub place : ℕ
  pub inside : place < records_in bytes
  pub is : identity_of bytes place ≡ x

-- both have it, and a number behind it differs: x, y or z, or the magnitude
pub record Moved (first second : List ℕ) (x : ℕ) : Type 0 where
  pub one : Has first x
  pub other : Has second x
  pub apart : Apart first one.place second other.place

-- a list of records of eight bytes says this of an identity
pub record Lists (list : List ℕ) (x kind : ℕ) : Type 0 where
  pub place : ℕ
  pub inside : 8 * place + 8 ≤ length list
  pub is : identity_at list place ≡ x
  pub says : kind_at list place ≡ kind

-- ---- who has an identity

-- ---- the list
