-- The bytes of records one after the other: how many there are, and which byte stands where. Assumes nothing.
use Rattle.std.specs.Prelude.{◌≡◌, drop}
use Rattle.std.proofs.Math.Path.{refl, ap}
use Rattle.std.proofs.Common.{◌∙◌, not-suc-le-zero}
use mathlib.Core.List.{List, [], ◌∷◌, ◌++◌, append_assoc}
use Prim.Native.Nat.{ℕ, zero, suc, ◌+◌, ◌*◌, ◌<◌}
use native.Mathlib.Omega.{arith}
use Rattle.std.proofs.Math.ListN.{length, get_or, length-append, length-drop, get_or-append}
use Rattle.std.proofs.Math.Seq.{length-take-le, get_or-take, get_or-drop, get_or-append-add}
use Rattle.catalogue.specs.Format.{record_size, records_in}
use Rattle.catalogue_cut.specs.Flight.{record_at, records_at}
use Rattle.catalogue_cut.specs.Records.{Inside}

module _ (bytes : List ℕ) where
  pub record-length : (i : ℕ) → i < records_in bytes → length (record_at bytes i) ≡ record_size
  unfolding record_at
  record-length i h = length-take-le record_size (drop (record_size * i) bytes) (omega (arith, length-drop (record_size * i) bytes))

  pub record-byte : (i k : ℕ) → k < record_size → get_or (record_at bytes i) k 0 ≡ get_or bytes (record_size * i + k) 0
  unfolding record_at
  record-byte i k h = get_or-take record_size (drop (record_size * i) bytes) k 0 h ∙ get_or-drop (record_size * i) bytes k 0

  pub records-append : (xs ys : List ℕ) → records_at bytes (xs ++ ys) ≡ records_at bytes xs ++ records_at bytes ys
  unfolding records_at
  records-append [] ys = refl
  records-append (x ∷ xs) ys = rw (records-append xs ys, append_assoc)

  tail : (x : ℕ) (xs : List ℕ) → Inside bytes (x ∷ xs) → Inside bytes xs
  tail x xs s = record { at = λ p h. s.at (suc p) (omega arith) }

  pub records-length : (xs : List ℕ) → Inside bytes xs → length (records_at bytes xs) ≡ record_size * length xs
  unfolding records_at
  records-length [] s = refl
  records-length (x ∷ xs) s =
      omega (arith, length-append (record_at bytes x) (records_at bytes xs), record-length x (s.at 0 (omega arith)), records-length xs (tail x xs s))

  -- byte k of the p'th of them
  pub records-byte : (xs : List ℕ) → Inside bytes xs → (p k : ℕ) → p < length xs → k < record_size
      → get_or (records_at bytes xs) (record_size * p + k) 0 ≡ get_or bytes (record_size * get_or xs p 0 + k) 0
  unfolding records_at
  records-byte [] s p k h l = absurd (not-suc-le-zero h)
  records-byte (x ∷ xs) s zero k h l =
      let e : record_size * 0 + k ≡ k = omega arith in
      ap (λ (n : ℕ). get_or (record_at bytes x ++ records_at bytes xs) n 0) e
      ∙ get_or-append (record_at bytes x) (records_at bytes xs) 0 k (omega (arith, record-length x (s.at 0 (omega arith))))
      ∙ record-byte x k l
  records-byte (x ∷ xs) s (suc p) k h l =
      let e : record_size * suc p + k ≡ length (record_at bytes x) + (record_size * p + k) = omega (arith, record-length x (s.at 0 (omega arith))) in
      ap (λ (n : ℕ). get_or (record_at bytes x ++ records_at bytes xs) n 0) e
      ∙ get_or-append-add (record_at bytes x) (records_at bytes xs) (record_size * p + k) 0
      ∙ records-byte xs (tail x xs s) p k (omega arith) l
