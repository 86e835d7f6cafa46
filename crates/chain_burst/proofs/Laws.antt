-- What a burst is for: each record is that of the single call on its frame, whatever its neighbours hold, and reading it gives back number, place and
-- matrix; what is behind the records stays; a refused burst and an empty one write nothing. Assumes nothing.
use Rattle.std.specs.Prelude.{false, ◌≡◌, List, [], ◌∷◌, ◌++◌, ℕ, zero, suc, ◌+◌, ◌*◌, ◌/◌, ◌%◌, ◌<◌, length, get_or, take}
use Rattle.std.proofs.Common.{sym, ◌∙◌, append_assoc, not-suc-le-zero, arith, take_at, drop_at}
use Rattle.std.proofs.Math.Path.{ap}
use Rattle.std.proofs.Math.Decide.{dec_lt}
use Rattle.std.proofs.Math.Nat.{zero-div, zero-mod}
use Rattle.std.proofs.Math.ListN.{drop, get_or-append}
use Rattle.std.proofs.Math.Seq.{drop-append-add}
use Rattle.std.proofs.lemmas.List.{get_or_at}
use Rattle.refusal.specs.Table.{first_applying}
use Rattle.frame_list.specs.input.Input.{size_out}
use Rattle.chain_burst.specs.records.Record.{record_size, record_of, decoded}
use Rattle.chain_burst.proofs.records.Laws.{decoded-encoded}
use Rattle.chain.specs.declared.Settings.{Settings}
use Rattle.chain.specs.declared.Tracked.{Tracked}
use Rattle.chain.specs.Chain as chain
use Rattle.chain.specs.Chain.{tracked_of}
use Rattle.chain.specs.RoomLaws.{any-room}
use Rattle.chain_burst.specs.Burst.{frame_at, frames_of, record_bytes, records_of, room_behind, Call, size_of, frames_in, frames, refusals_of, burst_of, records_after, room_after}
use Rattle.chain_burst.specs.OneMore.{frames-length, bytes-length}
use Rattle.chain_burst.proofs.OneMore.{records-length}
use Rattle.chain_burst.specs.Admit.{none-refused}
use Rattle.chain_burst.specs.Laws.{tracked-holds}
use Rattle.std.specs.Prelude.{Ok}

frame-of : (size : ℕ) (samples : List ℕ) (n k : ℕ) → k < n → get_or (frames_of size samples n) k [] ≡ frame_at size samples k
unfolding frames_of
frame-of size samples zero k h = absurd (not-suc-le-zero h)
frame-of size samples (suc n) k h = go (dec_lt k n) (frame-of size samples n k)
  where
    l : length (frames_of size samples n) ≡ n
    l = frames-length size samples n

    go : Dec (k < n) → (k < n → get_or (frames_of size samples n) k [] ≡ frame_at size samples k)
        → get_or (frames_of size samples n ++ (frame_at size samples n ∷ [])) k [] ≡ frame_at size samples k
    go (yes d) f = get_or-append (frames_of size samples n) (frame_at size samples n ∷ []) [] k (omega (arith, l)) ∙ f d
    go (no d) f =
        let e : n ≡ k = omega arith in
        get_or_at (frames_of size samples n) (frame_at size samples n) [] [] k (l ∙ e) ∙ ap (frame_at size samples) e

-- record k of some frames is that of frame k alone
record_of_lem : (catalogue : List ℕ) (s : Settings) (fs : List (List ℕ)) (room rest : List ℕ) (k : ℕ) → k < length fs
    → take record_size (drop (record_size * k) (records_of catalogue s fs room ++ rest)) ≡ record_bytes (tracked_of (chain.call (get_or fs k []) catalogue s room))
unfolding records_of
record_of_lem catalogue s [] room rest k h = absurd (not-suc-le-zero h)
record_of_lem catalogue s (f ∷ fs) room rest zero h =
    let t = tracked_of (chain.call f catalogue s room) in
    ap (take record_size) (append_assoc (record_bytes t) (records_of catalogue s fs room) rest)
    ∙ take_at (record_bytes t) (records_of catalogue s fs room ++ rest) record_size (bytes-length t)
record_of_lem catalogue s (f ∷ fs) room rest (suc k) h =
    let t = tracked_of (chain.call f catalogue s room) in
    let b = record_bytes t in
    let l = records_of catalogue s fs room ++ rest in
    let e : record_size * suc k ≡ length b + record_size * k = omega (arith, bytes-length t) in
    (λ i. take record_size (drop (e i) (append_assoc b (records_of catalogue s fs room) rest i)))
    ∙ ap (take record_size) (drop-append-add b l (record_size * k))
    ∙ record_of_lem catalogue s fs room rest k (omega arith)

module _ (c : Call) (h : first_applying (refusals_of c) ≡ Ok tt) where
  pub accepted-answer : burst_of c ≡ Ok (frames_in c)
  unfolding burst_of
  accepted-answer = rw h

  pub accepted-records : records_after c ≡ records_of c.catalogue c.settings (frames c) c.room ++ drop (record_size * frames_in c) c.records
  unfolding records_after
  accepted-records = rw h

  pub accepted-room : room_after c ≡ room_behind c.catalogue c.settings (frames c) c.room
  unfolding room_after
  accepted-room = rw h

  -- the single call on frame k, with any room as long as the one lent: so with the room as the frames before it leave it, too
  module _ (k : ℕ) (inside : k < frames_in c) (room : List ℕ) (long : length room ≡ length c.room) where
    abbrev single : Tracked
    single = tracked_of (chain.call (frame_at (size_of c) c.samples k) c.catalogue c.settings room)

    pub record-at : take record_size (drop (record_size * k) (records_after c)) ≡ record_bytes single
    record-at =
        ap (λ (l : List ℕ). take record_size (drop (record_size * k) l)) accepted-records
        ∙ record_of_lem c.catalogue c.settings (frames c) c.room _ k (omega (arith, frames-length (size_of c) c.samples (frames_in c)))
        ∙ ap (λ (f : List ℕ). record_bytes (tracked_of (chain.call f c.catalogue c.settings c.room)))
        (frame-of (size_of c) c.samples (frames_in c) k inside)
        ∙ ap record_bytes (any-room (frame_at (size_of c) c.samples k) c.catalogue c.settings c.room room (sym long))

    -- and read again
    pub decoded-at : decoded (take record_size (drop (record_size * k) (records_after c))) ≡ record_of single.outcome single.matrix
    decoded-at = ap decoded record-at ∙ decoded-encoded (record_of single.outcome single.matrix) (tracked-holds _)

  -- what is behind the last record stays
  pub rest-stays : drop (record_size * frames_in c) (records_after c) ≡ drop (record_size * frames_in c) c.records
  rest-stays =
      ap (drop (record_size * frames_in c)) accepted-records
      ∙ drop_at (records_of c.catalogue c.settings (frames c) c.room) (drop (record_size * frames_in c) c.records) (record_size * frames_in c)
      (records-length c.catalogue c.settings (frames c) c.room ∙ ap (λ (n : ℕ). record_size * n) (frames-length (size_of c) c.samples (frames_in c)))

module _ (c : Call) (e : size_out c.settings.width c.settings.height ≡ false) (none : length c.samples ≡ 0) where
  no_frames : frames_in c ≡ 0
  no_frames = ap (λ (n : ℕ). n / size_of c) none ∙ zero-div (size_of c)

  no-rest : length c.samples % size_of c ≡ 0
  no-rest = ap (λ (n : ℕ). n % size_of c) none ∙ zero-mod (size_of c)

  pub empty-accepted : first_applying (refusals_of c) ≡ Ok tt
  empty-accepted = none-refused c.settings.width c.settings.height (length c.samples) (length c.records) e no-rest (omega arith)
      (omega (arith, no_frames))

  pub empty-answer : burst_of c ≡ Ok 0
  empty-answer = accepted-answer c empty-accepted ∙ ap Ok no_frames

  pub empty-records : records_after c ≡ c.records
  unfolding frames_of records_of
  empty-records = accepted-records c empty-accepted ∙ ap (λ (n : ℕ). records_of c.catalogue c.settings (frames_of (size_of c) c.samples n) c.room
      ++ drop (record_size * n) c.records) no_frames

  pub empty-room : room_after c ≡ c.room
  unfolding frames_of room_behind
  empty-room = accepted-room c empty-accepted ∙ ap (λ (n : ℕ). room_behind c.catalogue c.settings (frames_of (size_of c) c.samples n) c.room) no_frames
