-- Magnitudes have no say in a burst: two valid catalogues with the same identities and directions get the same records and leave the same words in the ranking
-- room; whether the burst is refused has nothing to do with the catalogue. Assumes nothing.
use Rattle.std.specs.Prelude.{◌≡◌, ℕ, ◌*◌}
use Rattle.std.proofs.Math.Path.{refl, ap}
use Rattle.std.proofs.Common.{◌∙◌}
use mathlib.Core.List.{List, [], ◌∷◌, ◌++◌}
use Rattle.std.proofs.Math.ListN.{drop}
use Rattle.refusal.specs.Table.{first_applying, answered}
use Rattle.catalogue.specs.Alike.{Alike}
use Rattle.chain_burst.specs.records.Record.{record_size}
use Rattle.chain.specs.declared.Settings.{Settings}
use Rattle.chain.specs.Chain as plain
use Rattle.chain.specs.Alike as chain
use Rattle.chain_burst.specs.Burst.{record_bytes, records_of, room_behind, call, frames_in, frames, refusals_of, burst_of, records_after, room_after}

module _ {first second : List ℕ} (a : Alike first second) (s : Settings) where
  records-alike : (fs : List (List ℕ)) (room : List ℕ) → records_of first s fs room ≡ records_of second s fs room
  unfolding records_of
  records-alike [] room = refl
  records-alike (f ∷ fs) room = (λ j. record_bytes (chain.chain_same a f s room j) ++ records-alike fs room j)

  room-alike : (fs : List (List ℕ)) (room : List ℕ) → room_behind first s fs room ≡ room_behind second s fs room
  unfolding room_behind
  room-alike [] room = refl
  room-alike (f ∷ fs) room = room-alike fs (plain.room_after (plain.call f first s room)) ∙ ap (room_behind second s fs) (chain.room-same a f s room)

  module _ (samples room records : List ℕ) where
    pub burst-same : burst_of (call samples first s room records) ≡ burst_of (call samples second s room records)
    unfolding burst_of
    burst-same = refl

    pub records-same : records_after (call samples first s room records) ≡ records_after (call samples second s room records)
    unfolding records_after
    records-same =
        let c = call samples first s room records in
        (λ j. answered (λ _. records) (records-alike (frames c) room j ++ drop (record_size * frames_in c) records) (first_applying (refusals_of c)))

    pub room-same : room_after (call samples first s room records) ≡ room_after (call samples second s room records)
    unfolding room_after
    room-same =
        let c = call samples first s room records in
        (λ j. answered (λ _. room) (room-alike (frames c) room j) (first_applying (refusals_of c)))
