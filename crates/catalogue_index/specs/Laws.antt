-- What the index is, in plain terms: each pair of stars whose dot product is at least the floor stands in it exactly once, nothing else does, and the
-- records rise by dot product, then first number, then second. Only one list is so. Assumes nothing.
use Rattle.std.specs.Prelude.{◌≡◌, ℕ, ◌+◌, ◌*◌, ◌/◌, ◌%◌, ◌<◌, ◌≤◌, ◌⊎◌, List, ◌++◌, ℤ, ◌≤ℤ◌, ◌<ℤ◌, FitsSigned}
use Rattle.std.proofs.Common.{sym, ◌∙◌, of_z}
use Rattle.std.proofs.Math.Path.{ap}
use Rattle.std.proofs.Math.Logic.{inl, inr}
use Rattle.std.proofs.Math.Decide.{ℕ_discrete, dec_lt}
use native.Mathlib.Omega.{arith}
use Rattle.std.specs.Int.{w64}
use Rattle.lists.specs.Laws.{count}
use Rattle.vectors.specs.Triples.{triples, Listed, pair_dot}
use Rattle.words.specs.Bytes.{bytes_of}
use Rattle.words.specs.BytesLaws.{bytes-join}
use Rattle.catalogue_index.specs.records.Format.{turned, key_from, record_of}
use Rattle.catalogue_index.specs.records.OrderLaws.{sorted-same}
use Rattle.catalogue_index.specs.records.Rising.{Rising, within-one, within-length}
use Rattle.catalogue_index.specs.Raised.{raised}
use Rattle.catalogue_index.specs.RaisedLaws.{raised-le, le-raised, raised_lt, lt-raised, raised-one, raised-bits}
use Rattle.catalogue_index.specs.Index.{key_of, pairs_of, keys_of}
use Rattle.catalogue_index.specs.KeyLaws.{dot-fits}
use Rattle.catalogue_index.specs.Pairs.{PairOf, pair_of, pair-once, pairs-rising}

-- ---- a pair of the index

-- the pair of the stars a and b has the key k, and its dot product is at least the floor
pub record Entry (stars : List ℤ) (floor : ℤ) (k : ℕ) : Type 0 where
  pub a : ℕ
  pub b : ℕ
  pub order : a < b
  pub inside : b < triples stars
  pub least : floor ≤ℤ pair_dot stars a b
  pub is : k ≡ key_of stars a b

pub record Indexed (stars : List ℤ) (floor : ℤ) (ks : List ℕ) : Type 0 where
  pub once : (a b : ℕ) → a < b → b < triples stars → floor ≤ℤ pair_dot stars a b → count (key_of stars a b) ks ≡ 1
  pub only : (k : ℕ) → 0 < count k ks → Entry stars floor k
  pub rising : Rising ks

module _ (stars : List ℤ) (floor : ℤ) (s : Listed 512 stars) (f : FitsSigned w64 floor) where
  few : triples stars ≤ 65536
  few = omega (arith, s.few)

  same_count : (k : ℕ) → count k (keys_of stars floor) ≡ count k (pairs_of stars (raised floor) (triples stars))
  unfolding keys_of
  same_count k = (sorted-same (pairs_of stars (raised floor) (triples stars))).count k

  entry : (k : ℕ) → PairOf stars (raised floor) (triples stars) k → Entry stars floor k
  entry k p =
      record { a = p.a; b = p.b; order = p.order; inside = p.inside; least = le-raised f (dot-fits stars s p.a p.b) p.taken; is = p.is }

  keys-rising : Rising (keys_of stars floor)
  unfolding keys_of
  keys-rising = pairs-rising stars (raised floor) (triples stars) few

  pub indexed : Indexed stars floor (keys_of stars floor)
  indexed =
      record {
        once = λ a b p q h. same_count (key_of stars a b) ∙ pair-once stars (raised floor) (triples stars) a b few p q (raised-le f (dot-fits stars s a b) h);
        only = λ k h. entry k (pair_of stars (raised floor) (triples stars) k (omega (arith, same_count k)));
        rising = keys-rising;
      }

  -- what stands in one such list stands in any other
  stands : (xs ys : List ℕ) → Indexed stars floor xs → Indexed stars floor ys → (k : ℕ) → 0 < count k xs → 0 < count k ys
  stands xs ys i j k h =
      let e = i.only k h in
      omega (arith, ap (λ (n : ℕ). count n ys) e.is, j.once e.a e.b e.order e.inside e.least)

  pub indexed-one : (ks : List ℕ) → Indexed stars floor ks → ks ≡ keys_of stars floor
  indexed-one ks i =
      within-one ks (keys_of stars floor) i.rising keys-rising (stands ks (keys_of stars floor) i indexed)
      (within-length (keys_of stars floor) ks keys-rising i.rising (stands (keys_of stars floor) ks indexed i))

-- ---- the order of the keys

-- one dot product is less than the other, or they are the same and the record numbers decide
abbrev pub Earlier : List ℤ → ℕ → ℕ → ℕ → ℕ → Type 0
Earlier stars a b c d =
    (pair_dot stars a b <ℤ pair_dot stars c d)
    ⊎ ((pair_dot stars a b ≡ pair_dot stars c d) × ((a < c) ⊎ ((a ≡ c) × (b < d))))

module _ (stars : List ℤ) (s : Listed 512 stars) (a b c d : ℕ) (p : a < 512) (q : b < 512) (r : c < 512) (t : d < 512) where
  pub key-earlier : key_of stars a b < key_of stars c d → Earlier stars a b c d
  unfolding key_of
  key-earlier h = go (dec_lt (raised (pair_dot stars a b)) (raised (pair_dot stars c d))) (ℕ_discrete a c)
    where
      one : raised (pair_dot stars a b) ≡ raised (pair_dot stars c d) → pair_dot stars a b ≡ pair_dot stars c d
      one = raised-one (pair_dot stars a b) (pair_dot stars c d) (dot-fits stars s a b) (dot-fits stars s c d)

      go : Dec (raised (pair_dot stars a b) < raised (pair_dot stars c d)) → Dec (a ≡ c) → Earlier stars a b c d
      go (yes l) e = inl (lt-raised (dot-fits stars s a b) (dot-fits stars s c d) l)
      go (no l) (yes e) = inr (one (omega arith), inr (e, omega arith))
      go (no l) (no e) = inr (one (omega arith), inl (omega arith))

  pub earlier-key : Earlier stars a b c d → key_of stars a b < key_of stars c d
  unfolding key_of
  earlier-key (inl l) = let m = raised_lt (dot-fits stars s a b) (dot-fits stars s c d) l in omega arith
  earlier-key (inr (e, inl l)) = let m = ap raised e in omega arith
  earlier-key (inr (e, inr (l, n))) = let m = ap raised e in omega arith

-- ---- the bytes of a record

-- eight of the dot product, a signed number of 64 bits, and two of each record number, the lower first
pub entry-bytes : (stars : List ℤ) → Listed 512 stars → (a b : ℕ) → a < 512 → b < 512
    → record_of (key_of stars a b) ≡ bytes_of 8 (of_z w64 (pair_dot stars a b)) ++ (bytes_of 2 a ++ bytes_of 2 b)
unfolding record_of key_of
entry-bytes stars s a b p q =
    (λ i. bytes_of 8 (turned (high (raised z) (65536 * a + b) (omega arith) i)) ++ bytes_of 4 (low (raised z) (65536 * a + b) (omega arith) i))
    ∙ (λ i. bytes_of 8 (sym (raised-bits z (dot-fits stars s a b)) i) ++ bytes-join 2 2 a b (omega arith) i)
  where
    z : ℤ
    z = pair_dot stars a b

    high : (h l : ℕ) → l < 4294967296 → key_from h l / 4294967296 ≡ h
    high h l m = omega arith

    low : (h l : ℕ) → l < 4294967296 → key_from h l % 4294967296 ≡ l
    low h l m = omega arith
