-- The buffer after the cut: as long as before, the kept records at its front, and 255 behind them. Assumes nothing.
use Rattle.std.specs.Prelude.{List, ℕ, ℤ}
use Rattle.catalogue_cut.specs.Flight.{kept_in}

module _ (bytes : List ℕ) (limit closeness : ℤ) where
  abbrev pub kept : List ℕ
  kept = kept_in bytes limit closeness
