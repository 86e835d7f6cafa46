-- A room whose front holds records, to which some are added. Assumes nothing.
use Rattle.std.specs.Prelude.{◌≡◌, ℕ, ◌*◌, List, ◌++◌, length, drop}
use Rattle.catalogue_index.specs.records.Format.{encoded}

-- whatever records stood before place `at`, these stand behind them, and the rest of the room is as it was
pub record Grown (at : ℕ) (more before after : List ℕ) : Type 0 where
  pub grown : (ks rest : List ℕ) → at ≡ length ks → before ≡ encoded ks ++ rest → after ≡ encoded (ks ++ more) ++ drop (12 * length more) rest
