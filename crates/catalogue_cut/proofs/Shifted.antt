-- Records moved to the front, and room that is filled: what stands where on the way. Assumes nothing.
use Rattle.std.specs.Prelude.{Bool, ◌≡◌, ℕ, suc, ◌+◌, ◌*◌, ◌-◌, ◌≤◌, ◌<◌, eqb, get_or, drop, set}
use Rattle.std.proofs.Math.Bool.{true, false}
use Rattle.std.proofs.Math.Path.{refl, sym, ap}
use Rattle.std.proofs.Common.{◌∙◌, lt_of_lt_of_le, add-one, arith, length-append, take_all, get_or-append-add, get_or-drop}
use mathlib.Core.List.{List, [], ◌∷◌, ◌++◌, append-nil}
use Rattle.std.proofs.Math.ListN.{length, take}
use Rattle.std.specs.List.{copy_within}
use Rattle.std.proofs.lemmas.List.Edits.{sets, sets-eq, length-paste}
use Rattle.std.proofs.Math.Seq.{paste-suc, length_paste_head}
use Rattle.lists.specs.Number.{one}
use Rattle.lists.proofs.NumberLaws.{one-most}
use Rattle.lists.specs.Order.{pick, ordered}
use Rattle.lists.proofs.Below.{below_next, passing}
use Rattle.words.specs.Front.{at_front, front-more, front-behind}
use Rattle.catalogue.specs.Format.{record_size, records_in}
use Rattle.catalogue_cut.specs.Flight.{record_at, records_at}
use Rattle.catalogue_cut.specs.Records.{Inside}
use Rattle.catalogue_cut.proofs.Records.{record-length, record-byte, records-append, records-length}
use Rattle.catalogue_cut.specs.Shifted.{marked, copied, added, Moved}

module _ (bytes : List ℕ) (i to : ℕ) (h : to ≤ i) (l : i < records_in bytes) where
  abbrev at : ℕ
  at = record_size * to

  fits : (k : ℕ) → k ≤ record_size → k ≤ length (record_at bytes i)
  fits k m = omega (arith, record-length bytes i l)

  pub copied-length : (k : ℕ) → k ≤ record_size → length (copied bytes i to k) ≡ length bytes
  copied-length k m = length-paste bytes at (record_at bytes i) k (omega arith) (fits k m)

  -- the bytes that are still to be copied are as they were
  pub copied-left : (k : ℕ) → k ≤ record_size → get_or (copied bytes i to k) (record_size * i + k) 0 ≡ get_or bytes (record_size * i + k) 0
  copied-left k m =
      let head = take at bytes ++ take k (record_at bytes i) in
      let n = record_size * i - record_size * to in
      let p : length head ≡ at + k = length_paste_head bytes at (record_at bytes i) k (omega arith) (fits k m) in
      let e : record_size * i + k ≡ length head + n = omega arith in
      let d : at + k + n ≡ record_size * i + k = omega arith in
      ap (λ (j : ℕ). get_or (copied bytes i to k) j 0) e ∙ get_or-append-add head (drop (at + k) bytes) n 0 ∙ get_or-drop (at + k) bytes n 0
      ∙ ap (λ (j : ℕ). get_or bytes j 0) d

  pub copied_next : (k : ℕ) → k < record_size → set (copied bytes i to k) (at + k) (get_or (copied bytes i to k) (record_size * i + k) 0)
      ≡ copied bytes i to (k + 1)
  copied_next k m =
      let e = copied-left k (omega arith) ∙ sym (record-byte bytes i k m) in
      ap (set (copied bytes i to k) (at + k)) e ∙ paste-suc bytes at (record_at bytes i) k 0 (omega arith) (fits (suc k) m)
      ∙ ap (copied bytes i to) (sym (add-one k))

  pub copied_all : copied bytes i to record_size ≡ sets bytes at (record_at bytes i)
  copied_all =
      let n = record-length bytes i l in
      (λ j. take at bytes ++ take_all record_size (record_at bytes i) (omega arith) j ++ drop (at + sym n j) bytes)
      ∙ sym (sets-eq (record_at bytes i) bytes at (omega arith))

  -- the record as a part of the buffer, over the earlier one
  pub copied-part : copy_within bytes (record_size * i) (record_size * i + record_size) at ≡ sets bytes at (record_at bytes i)
  unfolding record_at
  copied-part =
      let e : record_size * i + record_size - record_size * i ≡ record_size = omega arith in
      let n = record-length bytes i l in
      (λ j. take at bytes ++ take (e j) (drop (record_size * i) bytes) ++ drop (at + e j) bytes)
      ∙ (λ j. take at bytes ++ take record_size (drop (record_size * i) bytes) ++ drop (at + sym n j) bytes)
      ∙ sym (sets-eq (take record_size (drop (record_size * i) bytes)) bytes at (omega arith))

marked_next : (marks : List ℕ) (i : ℕ) → marked marks (i + 1) ≡ marked marks i ++ pick (eqb (get_or marks i 0) 0) (i ∷ []) []
marked_next marks i = ap (marked marks) (add-one i) ∙ below_next (λ k. eqb (get_or marks k 0) 0) i

marked-inside : (bytes marks : List ℕ) (i : ℕ) → i ≤ records_in bytes → Inside bytes (marked marks i)
marked-inside bytes marks i h = record { at = λ p l. lt_of_lt_of_le ((passing (λ k. eqb (get_or marks k 0) 0) i).each p l).0 h }

pub moved-start : (bytes marks : List ℕ) → Moved bytes marks 0 0 bytes
unfolding ordered records_at
moved-start bytes marks = record { few = omega arith; is = refl; front = refl }

module _ {bytes marks : List ℕ} {i kept : ℕ} {room : List ℕ} (M : Moved bytes marks i kept room) (h : i < records_in bytes) where
  abbrev front : List ℕ
  front = records_at bytes (marked marks i)

  abbrev keeps : Bool
  keeps = eqb (get_or marks i 0) 0

  front_length : length front ≡ record_size * kept
  front_length = records-length bytes (marked marks i) (marked-inside bytes marks i (omega arith)) ∙ ap (λ (n : ℕ). record_size * n) (sym M.is)

  -- record i is still where it was
  still : record_at room i ≡ record_at bytes i
  unfolding record_at
  still =
      ap (λ (l : List ℕ). take record_size (drop (record_size * i) l)) M.front
      ∙ ap (take record_size) (front-behind front bytes (record_size * i) (omega (arith, front_length, M.few)))

  added-records : (t : Bool) → pick t (record_at room i) [] ≡ records_at bytes (pick t (i ∷ []) [])
  unfolding records_at
  added-records true = still ∙ sym (append-nil (record_at bytes i))
  added-records false = refl

  added-fits : (t : Bool) → length front + length (records_at bytes (pick t (i ∷ []) [])) ≤ length bytes
  unfolding records_at
  added-fits true = omega (arith, front_length, M.few, ap length (append-nil (record_at bytes i)), record-length bytes i h)
  added-fits false = omega (arith, front_length, M.few)

  count_next : (t : Bool) → length (marked marks i ++ pick t (i ∷ []) []) ≡ kept + one t
  count_next true = omega (arith, length-append (marked marks i) (i ∷ []), M.is)
  count_next false = omega (arith, length-append (marked marks i) [], M.is)

  pub moved-next : {next : ℕ} {after : List ℕ} → next ≡ kept + one keeps → after ≡ sets room (record_size * kept) (added room (get_or marks i 0) i)
      → Moved bytes marks (i + 1) next after
  moved-next {next} {after} e d =
      let n = marked_next marks i in
      let more = records_at bytes (pick keeps (i ∷ []) []) in
      record {
        few = omega (arith, M.few, one-most keeps);
        is = e ∙ sym (count_next keeps) ∙ sym (ap length n);
        front = d
            ∙ (λ j. sets (M.front j) (sym front_length j) (added-records keeps j))
            ∙ front-more front more bytes (added-fits keeps)
            ∙ sym (ap (λ (l : List ℕ). at_front l bytes) (ap (records_at bytes) n ∙ records-append bytes (marked marks i) (pick keeps (i ∷ []) [])));
      }
