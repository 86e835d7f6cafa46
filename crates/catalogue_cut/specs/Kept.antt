-- Which records are kept, in plain terms: exactly those within the limit that no other one within it is close to. Assumes nothing.
use Rattle.std.specs.Prelude.{Bool, ◌≡◌, List, ℕ, ◌<◌, T, ℤ, ◌≤ℤ◌}
use Rattle.std.proofs.Math.Bool.{true, false}
use Rattle.std.proofs.Math.Path.{refl}
use Rattle.std.proofs.Common.{sym, subst}
use Rattle.std.specs.Int.Signed.{le_z}
use Rattle.catalogue.specs.Format.{records_in, magnitude_of}
use Rattle.catalogue_cut.specs.Flight.{is_bright, product_of}

-- record j is another one within the limit, and close to record i
pub record Crowds (bytes : List ℕ) (limit closeness : ℤ) (i j : ℕ) : Type 0 where
  pub inside : j < records_in bytes
  pub other : j ≡ i → ⊥
  pub bright : magnitude_of bytes j ≤ℤ limit
  pub close : closeness ≤ℤ product_of bytes i j

-- record i is within the limit, and none is close to it
pub record Stays (bytes : List ℕ) (limit closeness : ℤ) (i : ℕ) : Type 0 where
  pub inside : i < records_in bytes
  pub bright : magnitude_of bytes i ≤ℤ limit
  pub alone : (j : ℕ) → Crowds bytes limit closeness i j → ⊥

-- ---- tests

pub is_true : (t : Bool) → T t → t ≡ true
is_true true h = refl
is_true false h = absurd h

pub at_most : {a b : ℤ} → le_z a b ≡ true → a ≤ℤ b
at_most e = record { le = subst T (sym e) tt }

-- ---- one star

module _ (bytes : List ℕ) (limit : ℤ) (i : ℕ) where
  pub is-bright : is_bright bytes limit i ≡ true → magnitude_of bytes i ≤ℤ limit
  unfolding is_bright
  is-bright e = at_most e

  pub bright-is : magnitude_of bytes i ≤ℤ limit → is_bright bytes limit i ≡ true
  unfolding is_bright
  bright-is h = is_true (le_z (magnitude_of bytes i) limit) h.le
