-- Where an identity stands in a catalogue. Assumes nothing.
use Rattle.std.specs.Prelude.{true, false, ◌≡◌, List, ℕ, ◌*◌, ◌<◌, get_or}
use Rattle.std.proofs.Math.Path.{sym}
use Rattle.std.proofs.Math.Nat.{le_refl}
use Rattle.std.proofs.Common.{lt_irrefl, arith}
use borrow.Author.Tests.{lt-ltb, le-ltb, eq-eqb, ne_eqb}
use Rattle.lists.proofs.First.{first_of}
use Rattle.words.specs.NumberLaws.{number-most}
use Rattle.catalogue.specs.Format.{record_size, records_in, identity_of}
use Rattle.catalogue.specs.Valid.{Valid}
use Rattle.catalogue_compare.specs.Changes.{place_of, has}

-- identities of four bytes that rise: what these laws ask of a catalogue
pub record Rises (bytes : List ℕ) : Type 0 where
  pub narrow : (i : ℕ) → identity_of bytes i < 4294967296
  pub rising : (i j : ℕ) → i < j → j < records_in bytes → identity_of bytes i < identity_of bytes j

pub valid-rises : {bytes : List ℕ} → ((k : ℕ) → get_or bytes k 0 < 256) → Valid bytes → Rises bytes
unfolding identity_of
valid-rises {bytes} b v = record { narrow = λ i. number-most bytes (record_size * i) 4 b; rising = v.rising }

module _ (bytes : List ℕ) (x : ℕ) where
  pub place_is : (p : ℕ) → p < records_in bytes → identity_of bytes p ≡ x → ((k : ℕ) → k < p → identity_of bytes k ≡ x → ⊥) → place_of bytes x ≡ p
  unfolding place_of
  place_is p h e f =
      sym
      (first_of _ _
      (record { most = omega arith; none = λ k l. ne_eqb (identity_of bytes k) x (f k l); taken = λ _. eq-eqb (identity_of bytes p) x e }))

  pub place_none : ((k : ℕ) → k < records_in bytes → identity_of bytes k ≡ x → ⊥) → has bytes x ≡ false
  unfolding place_of
  place_none f =
      let e : records_in bytes ≡ place_of bytes x =
      first_of _ _ (record { most = le_refl _; none = λ k l. ne_eqb (identity_of bytes k) x (f k l); taken = λ l. absurd (lt_irrefl _ l) }) in
      le-ltb (place_of bytes x) (records_in bytes) (omega arith)

  pub place-has : (p : ℕ) → p < records_in bytes → place_of bytes x ≡ p → has bytes x ≡ true
  place-has p h e = lt-ltb (place_of bytes x) (records_in bytes) (omega arith)
