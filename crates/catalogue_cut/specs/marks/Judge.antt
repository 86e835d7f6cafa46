-- The marks at the end: a record is kept exactly where its mark is 0. Assumes nothing.
use Rattle.std.specs.Prelude.{◌≡◌, List, ℕ, ◌<◌, eqb, ℤ, get_or}
use Rattle.std.proofs.Common.{subst}
use Rattle.catalogue.specs.Format.{records_in}
use Rattle.catalogue_cut.specs.Flight.{is_kept}

-- the marks of all records are those that the rule asks for
pub record Settled (bytes : List ℕ) (limit closeness : ℤ) (marks : List ℕ) : Type 0 where
  pub at : (k : ℕ) → k < records_in bytes → eqb (get_or marks k 0) 0 ≡ is_kept bytes limit closeness k

-- the same of equal numbers
pub settled-as : {bytes : List ℕ} {limit bound closeness near : ℤ} {marks : List ℕ} → limit ≡ bound → closeness ≡ near → Settled bytes limit closeness marks
    → Settled bytes bound near marks
settled-as {bytes} {limit} {bound} {closeness} {near} {marks} e d s =
    subst (λ (v : ℤ). Settled bytes v near marks) e (subst (λ (v : ℤ). Settled bytes limit v marks) d s)
