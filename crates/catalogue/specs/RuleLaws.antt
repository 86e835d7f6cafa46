-- The test of a length and the test of a record say exactly what the rules say. Assumes nothing.
use Rattle.std.specs.Prelude.{Bool, false, ◌&&◌, ◌≡◌, refl, List, ℕ, zero, suc, ◌/◌, ◌%◌, ◌<◌, T, eqb, ℤ, nat_abs, ◌-ℤ◌, ◌≤ℤ◌}
use Rattle.std.proofs.Math.Bool.{true}
use Rattle.std.proofs.Common.{sym, subst, arith}
use borrow.Author.Tests.{leb-true, le-leb, ltb-true, lt-ltb, eqb-true, eq-eqb}
use Rattle.std.proofs.Math.Dec.{leb}
use Rattle.std.proofs.Math.IntN.{pos}
use Rattle.std.proofs.Math.ListN.{length}
use Rattle.std.specs.Int.Signed.{le_z}
use Rattle.lists.specs.TestsLaws.{both_true}
use Rattle.numbers.specs.Within.{Within}
use Rattle.catalogue.specs.Format.{record_size, most_records, records_in, identity_of, component_of, magnitude_of}
use Rattle.catalogue.specs.Rule.{largest, square_sum, slack, in_range, squares, norm_ok, direction_ok, brightest, faintest, magnitude_ok, star_ok, identity_rises, record_ok}
use Rattle.catalogue.specs.Check.{length_ok}
use Rattle.catalogue.specs.Valid.{LengthRule, StarRule, RecordRule}

-- ---- the length

module _ (bytes : List ℕ) where
  pub ok-length : length_ok (length bytes) ≡ true → LengthRule bytes
  unfolding length_ok
  ok-length e =
      let p = both_true (eqb (length bytes % record_size) 0 && leb 1 (length bytes / record_size)) (leb (length bytes / record_size) most_records) e in
      let q = both_true (eqb (length bytes % record_size) 0) (leb 1 (length bytes / record_size)) p.0 in
      let w = eqb-true (length bytes % record_size) 0 q.0 in
      record { whole = omega arith; some = leb-true 1 (records_in bytes) q.1; most = leb-true (records_in bytes) most_records p.1 }

  pub length-ok : LengthRule bytes → length_ok (length bytes) ≡ true
  unfolding length_ok
  length-ok h =
      let w : length bytes % record_size ≡ 0 = omega (arith, h.whole) in
      rw (eq-eqb (length bytes % record_size) 0 w, le-leb 1 (records_in bytes) h.some, le-leb (records_in bytes) most_records h.most)

-- ---- a record by itself

near : (b : ℕ) (z : ℤ) → leb (nat_abs z) b ≡ true → Within b z
near b z e = record { within = leb-true (nat_abs z) b e }

at_most : {a b : ℤ} → le_z a b ≡ true → a ≤ℤ b
at_most e = record { le = subst T (sym e) tt }

is_true : (t : Bool) → T t → t ≡ true
is_true true h = refl
is_true false h = absurd h

module _ (bytes : List ℕ) (i : ℕ) where
  abbrev x : ℤ
  x = component_of bytes i 0

  abbrev y : ℤ
  y = component_of bytes i 1

  abbrev z : ℤ
  z = component_of bytes i 2

  abbrev m : ℤ
  m = magnitude_of bytes i

  ok-star : star_ok bytes i ≡ true → StarRule bytes i
  unfolding direction_ok magnitude_ok
  ok-star e =
      let d = both_true (direction_ok x y z) (magnitude_ok m) e in
      let p = both_true (in_range x && in_range y && in_range z) (norm_ok x y z) d.0 in
      let q = both_true (in_range x && in_range y) (in_range z) p.0 in
      let r = both_true (in_range x) (in_range y) q.0 in
      let s = both_true (le_z brightest m) (le_z m faintest) d.1 in
      record {
        x = near largest x r.0;
        y = near largest y r.1;
        z = near largest z q.1;
        norm = near slack (squares x y z -ℤ pos square_sum) p.1;
        bright = at_most s.0;
        faint = at_most s.1;
      }

  star-ok : StarRule bytes i → star_ok bytes i ≡ true
  unfolding direction_ok magnitude_ok
  star-ok h =
      let d : direction_ok x y z ≡ true = rw (
        le-leb (nat_abs x) largest h.x.within,
        le-leb (nat_abs y) largest h.y.within,
        le-leb (nat_abs z) largest h.z.within,
      )
      (le-leb (nat_abs (squares x y z -ℤ pos square_sum)) slack h.norm.within) in
      rw (d, is_true (le_z brightest m) h.bright.le) (is_true (le_z m faintest) h.faint.le)

-- ---- and against the record before

rises-above : (bytes : List ℕ) (i : ℕ) → identity_rises bytes i ≡ true → (j : ℕ) → suc j ≡ i → identity_of bytes j < identity_of bytes i
unfolding identity_rises
rises-above bytes zero e j d = absurd (omega arith)
rises-above bytes (suc i) e j d =
    let f : i ≡ j = omega arith in
    subst (λ (k : ℕ). identity_of bytes k < identity_of bytes (suc i)) f (ltb-true (identity_of bytes i) (identity_of bytes (suc i)) e)

above-rises : (bytes : List ℕ) (i : ℕ) → ((j : ℕ) → suc j ≡ i → identity_of bytes j < identity_of bytes i) → identity_rises bytes i ≡ true
unfolding identity_rises
above-rises bytes zero h = refl
above-rises bytes (suc i) h = lt-ltb (identity_of bytes i) (identity_of bytes (suc i)) (h i refl)

module _ (bytes : List ℕ) (i : ℕ) where
  pub ok-record : record_ok bytes i ≡ true → RecordRule bytes i
  unfolding record_ok
  ok-record e =
      let p = both_true (star_ok bytes i) (identity_rises bytes i) e in
      record { star = ok-star bytes i p.0; rises = rises-above bytes i p.1 }

  pub record-ok : RecordRule bytes i → record_ok bytes i ≡ true
  unfolding record_ok
  record-ok h = rw (star-ok bytes i h.star) (above-rises bytes i h.rises)
