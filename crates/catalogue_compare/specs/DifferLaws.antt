-- Two records differ exactly where a word behind the identity does. Assumes nothing.
use Rattle.std.specs.Prelude.{Bool, true, false, ◌≡◌, refl, List, ℕ, ◌<◌, eqb}
use Rattle.std.proofs.Math.Bool.{not}
use Rattle.std.proofs.Math.Path.{ap}
use Rattle.std.proofs.Math.Nat.{le_refl}
use Rattle.std.proofs.Common.{lt_irrefl, arith}
use borrow.Author.Tests.{le-ltb, ltb-true, ltb-false, eq-eqb, eqb-true, eqb-false, not-true, not-false}
use Rattle.lists.specs.First.{first as first_where}
use Rattle.lists.proofs.First.{first-is, first_of}
use Rattle.catalogue_compare.specs.Changes.{fields, field_of, differ}

module _ (first : List ℕ) (i : ℕ) (second : List ℕ) (j : ℕ) where
  abbrev other : ℕ → Bool
  other k = not (eqb (field_of first i k) (field_of second j k))

  -- nowhere where all are the same
  pub differ-none : ((n : ℕ) → n < fields → field_of first i n ≡ field_of second j n) → differ first i second j ≡ false
  unfolding differ
  differ-none f =
      let e : fields ≡ first_where other fields =
      first_of other fields
      (record {
        most = le_refl fields;
        none = λ n l. ap not (eq-eqb (field_of first i n) (field_of second j n) (f n l));
        taken = λ l. absurd (lt_irrefl fields l);
      }) in
      le-ltb (first_where other fields) fields (omega arith)

  -- some word is another
  pub record Other : Type 0 where
    pub k : ℕ
    pub inside : k < fields
    pub apart : field_of first i k ≡ field_of second j k → ⊥

  pub differ-some : differ first i second j ≡ true → Other
  unfolding differ
  differ-some e =
      let p = first-is other fields in
      let h = ltb-true (first_where other fields) fields e in
      record { k = first_where other fields; inside = h; apart = eqb-false _ _ (not-true _ (p.taken h)) }

  pub differ_same : differ first i second j ≡ false → (k : ℕ) → k < fields → field_of first i k ≡ field_of second j k
  unfolding differ
  differ_same e k h =
      let p = first-is other fields in
      let l = ltb-false (first_where other fields) fields e in
      eqb-true _ _ (not-false _ (p.none k (omega arith)))

  -- a word that is another is enough, whatever stands before it
  pub differ-any : (k : ℕ) → k < fields → (field_of first i k ≡ field_of second j k → ⊥) → differ first i second j ≡ true
  differ-any k h d = go (differ first i second j) refl
    where
      go : (t : Bool) → differ first i second j ≡ t → differ first i second j ≡ true
      go true e = e
      go false e = absurd (d (differ_same e k h))
