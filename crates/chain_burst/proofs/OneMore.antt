-- The step from one frame of a burst to the next, shown once, for any frames and one more. Assumes nothing.
use Rattle.std.specs.Prelude.{◌≡◌}
use Rattle.std.proofs.Math.Path.{refl, sym, ap}
use Rattle.std.proofs.Common.{◌∙◌, add-one, length-drop, take_at, drop-drop}
use mathlib.Core.List.{List, [], ◌∷◌, ◌++◌, append_assoc, append-nil}
use Prim.Native.Nat.{ℕ, suc, ◌+◌, ◌*◌, ◌≤◌}
use native.Mathlib.Omega.{arith}
use Rattle.std.proofs.Math.ListN.{length, drop, length-append}
use Rattle.std.proofs.Math.Seq.{sets, drop-append-add}
use Rattle.std.proofs.lemmas.List.Edits.{sets-eq}
use Rattle.chain_burst.specs.records.Record.{record_size}
use Rattle.chain.specs.declared.Settings.{Settings}
use Rattle.chain.specs.Chain as chain
use Rattle.chain.specs.Chain.{tracked_of}
use Rattle.chain.specs.RoomLaws as chain-room
use Rattle.chain.proofs.RoomLaws as chain-length
use Rattle.chain_burst.specs.Burst.{frame_at, frames_of, record_bytes, records_of, room_behind}
use Rattle.chain_burst.specs.OneMore.{bytes-length, frames-length}

module _ (catalogue : List ℕ) (s : Settings) where
  pub room-kept : (fs : List (List ℕ)) (room : List ℕ) → length (room_behind catalogue s fs room) ≡ length room
  unfolding room_behind
  room-kept [] room = refl
  room-kept (f ∷ fs) room = room-kept fs (chain.room_after (chain.call f catalogue s room)) ∙ chain-length.room-length (chain.call f catalogue s room)

  room-more : (fs : List (List ℕ)) (f room : List ℕ) → room_behind catalogue s (fs ++ (f ∷ [])) room
      ≡ chain.room_after (chain.call f catalogue s (room_behind catalogue s fs room))
  unfolding room_behind
  room-more [] f room = refl
  room-more (g ∷ gs) f room = room-more gs f (chain.room_after (chain.call g catalogue s room))

  records-more : (fs : List (List ℕ)) (f room : List ℕ) → records_of catalogue s (fs ++ (f ∷ [])) room ≡ records_of catalogue s fs room
      ++ record_bytes (tracked_of (chain.call f catalogue s room))
  unfolding records_of
  records-more [] f room = append-nil (record_bytes (tracked_of (chain.call f catalogue s room)))
  records-more (g ∷ gs) f room =
      let b = record_bytes (tracked_of (chain.call g catalogue s room)) in
      ap (λ (l : List ℕ). b ++ l) (records-more gs f room) ∙ sym (append_assoc b (records_of catalogue s gs room)
      (record_bytes (tracked_of (chain.call f catalogue s room))))

  -- what stands in the two rooms behind some frames
  pub record Behind (fs : List (List ℕ)) (before room records : List ℕ) : Type 0 where
    pub ranked : room ≡ room_behind catalogue s fs before
    pub written : records ≡ records_of catalogue s fs before

  -- one frame more, with the room as the frames before it left it: its record comes behind theirs
  pub one_more : (fs : List (List ℕ)) (f before room records : List ℕ) → Behind fs before room records
      → Behind (fs ++ (f ∷ [])) before (chain.room_after (chain.call f catalogue s room)) (records ++ record_bytes (tracked_of (chain.call f catalogue s room)))
  one_more fs f before room records h =
      let same = chain-room.any-room f catalogue s room before (ap length h.ranked ∙ room-kept fs before) in
      record {
        ranked = ap (λ (r : List ℕ). chain.room_after (chain.call f catalogue s r)) h.ranked ∙ sym (room-more fs f before);
        written = (λ i. h.written i ++ record_bytes (same i)) ∙ sym (records-more fs f before);
      }

  pub records-length : (fs : List (List ℕ)) (room : List ℕ) → length (records_of catalogue s fs room) ≡ record_size * length fs
  unfolding records_of
  records-length [] room = refl
  records-length (f ∷ fs) room =
      let t = tracked_of (chain.call f catalogue s room) in
      omega (arith, length-append (record_bytes t) (records_of catalogue s fs room), bytes-length t, records-length fs room)

-- bytes stored behind others
stored-behind : (xs vs lent : List ℕ) (at : ℕ) → length xs ≡ at → at + length vs ≤ length lent
    → sets (xs ++ drop at lent) at vs ≡ (xs ++ vs) ++ drop (at + length vs) lent
stored-behind xs vs lent at e h =
    let l = xs ++ drop at lent in
    let b : drop (at + length vs) l ≡ drop (at + length vs) lent =
    ap (λ (n : ℕ). drop (n + length vs) l) (sym e) ∙ drop-append-add xs (drop at lent) (length vs) ∙ drop-drop (length vs) at lent in
    sets-eq vs l at (omega (arith, length-append xs (drop at lent), length-drop at lent))
    ∙ (λ i. take_at xs (drop at lent) at e i ++ vs ++ b i)

module _ (catalogue : List ℕ) (s : Settings) (size : ℕ) (samples before lent : List ℕ) where
  -- the two rooms behind the first k frames
  pub record Passed (k : ℕ) (room records : List ℕ) : Type 0 where
    pub ranked : room ≡ room_behind catalogue s (frames_of size samples k) before
    pub written : records ≡ records_of catalogue s (frames_of size samples k) before ++ drop (record_size * k) lent

  pub none_passed : Passed 0 before lent
  unfolding frames_of records_of room_behind
  none_passed = record { ranked = refl; written = refl }

  passed-next : (k : ℕ) (room records : List ℕ) → record_size * k + record_size ≤ length lent → Passed k room records
      → Passed (suc k) (chain.room_after (chain.call (frame_at size samples k) catalogue s room))
      (sets records (record_size * k) (record_bytes (tracked_of (chain.call (frame_at size samples k) catalogue s room))))
  unfolding frames_of
  passed-next k room records h p =
      let fs = frames_of size samples k in
      let t = tracked_of (chain.call (frame_at size samples k) catalogue s room) in
      let b = record_bytes t in
      let so_far = records_of catalogue s fs before in
      let n : length b ≡ record_size = bytes-length t in
      let l : length so_far ≡ record_size * k = records-length catalogue s fs before ∙ ap (λ (m : ℕ). record_size * m) (frames-length size samples k) in
      let e : record_size * k + length b ≡ record_size * suc k = omega arith in
      let m = one_more catalogue s fs (frame_at size samples k) before room so_far (record { ranked = p.ranked; written = refl }) in
      record {
        ranked = m.ranked;
        written = ap (λ (r : List ℕ). sets r (record_size * k) b) p.written ∙ stored-behind so_far b lent (record_size * k) l (omega arith)
            ∙ (λ i. m.written i ++ drop (e i) lent);
      }

  -- the next number as the code has it
  pub passed-more : (k : ℕ) (room records : List ℕ) → record_size * k + record_size ≤ length lent → Passed k room records
      → Passed (k + 1) (chain.room_after (chain.call (frame_at size samples k) catalogue s room))
      (sets records (record_size * k) (record_bytes (tracked_of (chain.call (frame_at size samples k) catalogue s room))))
  passed-more k room records h p = rw add-one (passed-next k room records h p)
