-- Magnitudes have no say in the chain by an index: for two valid catalogues with the same identities and directions it gives the same answer and leaves the
-- same
-- words in the room. Assumes nothing.
use Rattle.std.specs.Prelude.{◌≡◌, List, ◌++◌, ℕ, ℤ, length}
use Rattle.refusal.specs.Table.{first_applying, answered}
use Rattle.frame_list.specs.input.Input.{frame_rows}
use Rattle.catalogue.specs.Alike.{Alike, stars-same, rows_same}
use Rattle.chain.specs.declared.Settings.{Settings}
use Rattle.chain.specs.Chain as plain
use Rattle.chain.specs.Chain.{refused_with, settings_rows, demand_rows, listed}
use Rattle.chain.specs.Alike as chain
use Rattle.chain_by_index.specs.Chain.{call, index_rows, stars_rows, refusals_of, tracked_of, room_after}

module _ {first second : List ℕ} (a : Alike first second) (samples index : List ℕ) (floor : ℤ) (s : Settings) (room : List ℕ) where
  pub outcome-same : first_applying (refusals_of (call samples first index floor s room)) ≡ first_applying (refusals_of (call samples second index floor s room))
  unfolding refusals_of stars_rows
  outcome-same =
      (λ j.
      first_applying
      (frame_rows samples s.width s.height s.threshold
      ++ (settings_rows s
      ++ ((rows_same a j ++ index_rows (stars-same a j) index floor)
      ++ demand_rows s (length room) (listed (plain.call samples first s room)).report.count))))

  pub chain_same : tracked_of (call samples first index floor s room) ≡ tracked_of (call samples second index floor s room)
  unfolding tracked_of
  chain_same = (λ j. answered refused_with (chain.chain_same a samples s room j) (outcome-same j))

  pub room-same : room_after (call samples first index floor s room) ≡ room_after (call samples second index floor s room)
  unfolding room_after
  room-same = (λ j. answered (λ _. room) (chain.room-same a samples s room j) (outcome-same j))
