-- The bytes of records one after the other: how many there are, and which byte stands where. Assumes nothing.
use mathlib.Core.List.{List}
use Prim.Native.Nat.{ℕ, ◌<◌}
use Rattle.std.proofs.Math.ListN.{length, get_or}
use Rattle.catalogue.specs.Format.{records_in}

-- each of them is a record of the catalogue
pub record Inside (bytes xs : List ℕ) : Type 0 where
  pub at : (p : ℕ) → p < length xs → get_or xs p 0 < records_in bytes
