-- What a burst is for: each record is that of the single call on its frame, whatever its neighbours hold, and reading it gives back number, place and
-- matrix; what is behind the records stays; a refused burst and an empty one write nothing. Assumes nothing.
use Rattle.std.specs.Prelude.{◌≡◌, List, ℕ, ◌+◌, ◌*◌, ◌<◌, ℤ, pos, get_or}
use Rattle.std.proofs.Common.{◌∙◌, arith, lit<, get_or-take, get_or-drop, SFits}
use Rattle.std.proofs.Math.ListN.{drop}
use Rattle.std.specs.Int.{w64}
use Rattle.refusal.specs.declared.Refusal.{Refusal}
use Rattle.refusal.specs.Table.{first_applying}
use Rattle.numbers.specs.Within.{Within, within-fits}
use Rattle.attitude.specs.declared.Matrix.{Matrix}
use Rattle.attitude.specs.Attitude.{entries_of}
use Rattle.attitude.specs.Entries.{MatrixWithin}
use Rattle.chain_burst.specs.records.Record.{record_of, AllSigned, Holds}
use Rattle.chain.specs.Chain as chain
use Rattle.chain.specs.Chain.{tracked_of}
use Rattle.chain.specs.BoundLaws.{Low, tracked-within}
use Rattle.chain.proofs.BoundLaws.{tracked-low}
use Rattle.chain_burst.specs.Burst.{frame_at, Call, refusals_of, burst_of, records_after, room_after}
use Rattle.std.specs.Prelude.{Result, Ok, Err}

-- ---- frames

-- sample i of frame k
pub frame-sample : (size : ℕ) (samples : List ℕ) (k i : ℕ) → i < size → get_or (frame_at size samples k) i 0 ≡ get_or samples (k * size + i) 0
frame-sample size samples k i h = get_or-take size (drop (k * size) samples) i 0 h ∙ get_or-drop (k * size) samples i 0

-- ---- records

-- a matrix of the chain has entries of 64 bits
signed : {z : ℤ} → Within 6000000000 z → SFits w64 z
signed p = within-fits w64 p (lit< tt)

matrix-signed : (m : Matrix) → MatrixWithin 6000000000 m → AllSigned (entries_of m)
unfolding AllSigned
matrix-signed m h = (
  signed h.row0.x,
  (
    signed h.row0.y,
    (
      signed h.row0.z,
      (
        signed h.row1.x,
        (
          signed h.row1.y,
          (
            signed h.row1.z,
            (signed h.row2.x, (signed h.row2.y, (signed h.row2.z, tt))),
          ),
        ),
      ),
    ),
  ),
)

-- so that a record holds each answer of the chain
holds_by : (o : Result Unit Refusal) (m : Matrix) → Low o → MatrixWithin 6000000000 m → Holds (record_of o m)
unfolding AllSigned
holds_by (Ok _) m l h = record { number = omega arith; place = omega arith; entries = matrix-signed m h }
holds_by (Err r) m l h =
    let z : SFits w64 (pos 0) = record { sfits = lit< tt } in
    record { number = omega (arith, l.number); place = omega (arith, l.place); entries = (z, (z, (z, (z, (z, (z, (z, (z, (z, tt))))))))) }

pub tracked-holds : (c : chain.Call) → Holds (record_of (tracked_of c).outcome (tracked_of c).matrix)
tracked-holds c = holds_by (tracked_of c).outcome (tracked_of c).matrix (tracked-low c) (tracked-within c)

-- ---- an accepted burst

-- ---- a refused burst

module _ (c : Call) (q : Refusal) (h : first_applying (refusals_of c) ≡ Err q) where
  pub refused-answer : burst_of c ≡ Err q
  unfolding burst_of
  refused-answer = rw h

  pub refused-records : records_after c ≡ c.records
  unfolding records_after
  refused-records = rw h

  pub refused-room : room_after c ≡ c.room
  unfolding room_after
  refused-room = rw h

-- ---- an empty burst: no records, whatever the rooms
