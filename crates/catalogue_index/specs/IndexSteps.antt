-- How the records of the index come one after the other. Assumes nothing.
use Rattle.std.specs.Prelude.{◌≡◌, ℕ, zero, suc, ◌+◌, ◌*◌, ◌<◌, ◌≤◌, Bool, true, false, cond, List, [], ◌∷◌, ◌++◌, length, ℤ, nat_le}
use Rattle.std.proofs.Math.Path.{refl}
use Rattle.std.proofs.Common.{ap, ◌∙◌, le-leb}
use Rattle.std.proofs.Math.Decide.{ℕ_discrete}
use Rattle.std.proofs.Math.Nat.{suc-mul}
use Rattle.std.proofs.Math.Numerals.{add-one}
use native.Mathlib.Omega.{arith}
use Rattle.std.proofs.lemmas.Bool.{lt-leb}
use Rattle.std.proofs.Math.ListN.{length-append}
use Rattle.vectors.specs.Triples.{triples, pair_dot}
use Rattle.catalogue_index.specs.records.Format.{encoded}
use Rattle.catalogue_index.specs.records.Order.{sorted}
use Rattle.catalogue_index.specs.records.OrderLaws.{sorted-length}
use Rattle.catalogue_index.specs.Raised.{raised}
use Rattle.catalogue_index.specs.Index.{collected, key_of, entry_of, row_of, pairs_of, keys_of, index_of}

module _ (f : ℕ → List ℕ) where
  pub collected-none : 0 ≡ length (collected 0 f)
  unfolding collected
  collected-none = refl

  pub none_more : (at : ℕ) → at ≡ at + length (collected 0 f)
  unfolding collected
  none_more at = omega arith

  pub collected-next : (n : ℕ) → collected (n + 1) f ≡ collected n f ++ f n
  unfolding collected
  collected-next n = rw add-one

  pub length-next : (n : ℕ) → length (collected (n + 1) f) ≡ length (collected n f) + length (f n)
  length-next n = ap length (collected-next n) ∙ length-append (collected n f) (f n)

  pub collected-part : (n m : ℕ) → n ≤ m → length (collected n f) ≤ length (collected m f)
  unfolding collected
  collected-part n zero h = let e : n ≡ 0 = omega arith in rw e (omega arith)
  collected-part n (suc m) h = go (ℕ_discrete n (suc m)) (λ l. collected-part n m l)
    where
      go : Dec (n ≡ suc m) → (n ≤ m → length (collected n f) ≤ length (collected m f)) → length (collected n f) ≤ length (collected (suc m) f)
      go (yes e) i = rw e (omega arith)
      go (no d) i = omega (arith, i (omega arith), length-append (collected m f) (f m))

  pub collected-most : (m n : ℕ) → ((i : ℕ) → i < n → length (f i) ≤ m) → length (collected n f) ≤ n * m
  unfolding collected
  collected-most m zero h = omega arith
  collected-most m (suc n) h =
      omega (arith, length-append (collected n f) (f n), h n (omega arith), collected-most m n (λ i l. h i (omega arith)), suc-mul n m)

module _ (stars : List ℤ) (floor b a : ℕ) where
  pub entry-taken : floor ≤ raised (pair_dot stars a b) → entry_of stars floor b a ≡ key_of stars a b ∷ []
  unfolding entry_of
  entry-taken h = rw (le-leb floor (raised (pair_dot stars a b)) h)

  pub entry-left : raised (pair_dot stars a b) < floor → entry_of stars floor b a ≡ []
  unfolding entry_of
  entry-left h = rw (lt-leb floor (raised (pair_dot stars a b)) h)

  pub entry-most : length (entry_of stars floor b a) ≤ 1
  unfolding entry_of
  entry-most = go (nat_le floor (raised (pair_dot stars a b)))
    where
      go : (t : Bool) → length (cond t (key_of stars a b ∷ []) []) ≤ 1
      go true = omega arith
      go false = omega arith

-- a star has at most as many pairs as there are stars before it
pub row-most : (stars : List ℤ) (floor b : ℕ) → length (row_of stars floor b) ≤ b
unfolding row_of
row-most stars floor b = omega (arith, collected-most (entry_of stars floor b) 1 b (λ a h. entry-most stars floor b a))

pub pairs-most : (stars : List ℤ) (floor n : ℕ) → n ≤ 512 → length (pairs_of stars floor n) ≤ n * 512
unfolding pairs_of
pairs-most stars floor n h = collected-most (row_of stars floor) 512 n (λ b l. omega (arith, row-most stars floor b))

-- the index has as many keys as pairs were found
pub keys_length : (stars : List ℤ) (floor : ℤ) → length (keys_of stars floor) ≡ length (pairs_of stars (raised floor) (triples stars))
unfolding keys_of
keys_length stars floor = sorted-length (pairs_of stars (raised floor) (triples stars))

pub index_is : (stars : List ℤ) (floor : ℤ) → encoded (sorted (pairs_of stars (raised floor) (triples stars))) ≡ index_of stars floor
unfolding index_of keys_of
index_is stars floor = refl
