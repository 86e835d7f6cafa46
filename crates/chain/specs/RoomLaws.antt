-- What the ranking room holds makes no difference to the answer, only how long it is; and a call leaves its length. Assumes nothing.
use Rattle.std.specs.Prelude.{◌≡◌, List, ◌++◌, ℕ, length}
use Rattle.std.proofs.Math.Path.{ap}
use Rattle.refusal.specs.Table.{first_applying, answered}
use Rattle.frame_list.specs.input.Input.{frame_rows}
use Rattle.frame_list.specs.Calls.{listing_of}
use Rattle.catalogue.specs.Check as catalogue
use Rattle.chain.specs.declared.Settings.{Settings}
use Rattle.chain.specs.Chain.{call, settings_rows, demand_rows, refusals_of, refused_with, located_of, tracked_of}

module _ (samples bytes : List ℕ) (s : Settings) where
  pub any-room : (before after : List ℕ) → length before ≡ length after → tracked_of (call samples bytes s before) ≡ tracked_of (call samples bytes s after)
  unfolding tracked_of refusals_of
  any-room before after e =
      let report = (listing_of samples s.width s.height s.threshold).report in
      let rows = frame_rows samples s.width s.height s.threshold in
      ap (λ (n : ℕ). answered refused_with (located_of report bytes s) (first_applying
      (rows ++ (settings_rows s ++ (catalogue.refusals_of bytes ++ demand_rows s n report.count))))) e
