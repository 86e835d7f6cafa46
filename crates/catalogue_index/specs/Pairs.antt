-- Which keys the pairs have that are found: each pair with a large enough dot product once, and no other. Assumes nothing.
use Rattle.std.specs.Prelude.{◌≡◌, ℕ, zero, suc, ◌+◌, ◌*◌, ◌<◌, ◌≤◌, List, [], ℤ, ◌≢◌, refl}
use Rattle.std.proofs.Common.{sym, ap, ◌∙◌, not-suc-le-zero, arith}
use Rattle.std.proofs.Math.Decide.{ℕ_discrete, dec_lt, dec_le}
use borrow.Author.Tests.{eq-eqb}
use Rattle.lists.specs.Laws.{count}
use Rattle.vectors.specs.Triples.{pair_dot}
use Rattle.catalogue_index.specs.records.Format.{key_from}
use Rattle.catalogue_index.specs.records.Order.{sorted}
use Rattle.catalogue_index.specs.records.OrderLaws.{sorted-same, sorted-sorted}
use Rattle.catalogue_index.specs.records.Rising.{Rising, sorted-rising, count-append, count-tail}
use Rattle.catalogue_index.specs.Raised.{raised}
use Rattle.catalogue_index.specs.Index.{collected, key_of, entry_of, row_of, pairs_of}
use Rattle.catalogue_index.specs.IndexSteps.{entry-taken, entry-left}

-- ---- what is collected

-- one of the numbers below n gives k
pub record Source (f : ℕ → List ℕ) (n k : ℕ) : Type 0 where
  pub i : ℕ
  pub below : i < n
  pub gives : 0 < count k (f i)

pub source : (f : ℕ → List ℕ) (n k : ℕ) → 0 < count k (collected n f) → Source f n k
unfolding collected count
source f zero k h = absurd (not-suc-le-zero h)
source f (suc n) k h = go (dec_lt 0 (count k (f n))) (source f n k)
  where
    go : Dec (0 < count k (f n)) → (0 < count k (collected n f) → Source f n k) → Source f (suc n) k
    go (yes l) g = record { i = n; below = omega arith; gives = l }
    go (no l) g =
        let s = g (omega (arith, count-append k (collected n f) (f n))) in
        record { i = s.i; below = omega (arith, s.below); gives = s.gives }

-- where no other number gives k, it stands as often as i gives it
none_of : (f : ℕ → List ℕ) (n k : ℕ) → ((j : ℕ) → j < n → count k (f j) ≡ 0) → count k (collected n f) ≡ 0
unfolding collected count
none_of f zero k h = refl
none_of f (suc n) k h = omega (arith, count-append k (collected n f) (f n), none_of f n k (λ j l. h j (omega arith)), h n (omega arith))

pub only_of : (f : ℕ → List ℕ) (n k i : ℕ) → i < n → ((j : ℕ) → j < n → (j ≢ i) → count k (f j) ≡ 0) → count k (collected n f) ≡ count k (f i)
unfolding collected
only_of f zero k i h o = absurd (not-suc-le-zero h)
only_of f (suc n) k i h o = go (ℕ_discrete i n) (λ l. only_of f n k i l (λ j m d. o j (omega arith) d))
  where
    go : Dec (i ≡ n) → (i < n → count k (collected n f) ≡ count k (f i)) → count k (collected (suc n) f) ≡ count k (f i)
    go (yes e) g =
        let z = none_of f n k (λ j l. o j (omega arith) (λ d. omega arith)) in
        rw e (omega (arith, count-append k (collected n f) (f n)))
    go (no d) g =
        omega (arith, count-append k (collected n f) (f n), g (omega arith), o n (omega arith) (λ e. d (sym e)))

-- ---- a key tells its pair

pub key-tells : (stars : List ℤ) (a b c d : ℕ) → a < 65536 → b < 65536 → c < 65536 → d < 65536 → key_of stars a b ≡ key_of stars c d → (a ≡ c) × (b ≡ d)
unfolding key_of
key-tells stars a b c d p q r s e =
    let l = low (raised (pair_dot stars a b)) (65536 * a + b) (raised (pair_dot stars c d)) (65536 * c + d) (omega arith) (omega arith) e in
    (omega arith, omega arith)
  where
    low : (h l m n : ℕ) → l < 4294967296 → n < 4294967296 → key_from h l ≡ key_from m n → l ≡ n
    low h l m n u v w = omega arith

-- ---- the pairs

-- k is the key of a pair of the first n stars whose dot product, moved up, is at least the floor
pub record PairOf (stars : List ℤ) (floor n k : ℕ) : Type 0 where
  pub a : ℕ
  pub b : ℕ
  pub order : a < b
  pub inside : b < n
  pub taken : floor ≤ raised (pair_dot stars a b)
  pub is : k ≡ key_of stars a b

module _ (stars : List ℤ) (floor : ℕ) where
  entry-one : (b a : ℕ) → floor ≤ raised (pair_dot stars a b) → count (key_of stars a b) (entry_of stars floor b a) ≡ 1
  unfolding count
  entry-one b a h = rw (entry-taken stars floor b a h, eq-eqb (key_of stars a b) (key_of stars a b) refl)

  entry-is : (b a k : ℕ) → 0 < count k (entry_of stars floor b a) → (floor ≤ raised (pair_dot stars a b)) × (k ≡ key_of stars a b)
  unfolding count
  entry-is b a k h = go (dec_le floor (raised (pair_dot stars a b))) (ℕ_discrete k (key_of stars a b))
    where
      go : Dec (floor ≤ raised (pair_dot stars a b)) → Dec (k ≡ key_of stars a b) → (floor ≤ raised (pair_dot stars a b)) × (k ≡ key_of stars a b)
      go (yes l) (yes e) = (l, e)
      go (yes l) (no d) = absurd (omega (arith, rw (entry-taken stars floor b a l) at h, count-tail k (key_of stars a b) [] d))
      go (no l) e = absurd (omega (arith, rw (entry-left stars floor b a (omega arith)) at h))

  pub pair_of : (n k : ℕ) → 0 < count k (pairs_of stars floor n) → PairOf stars floor n k
  unfolding pairs_of row_of
  pair_of n k h =
      let s = source (row_of stars floor) n k h in
      let t = source (entry_of stars floor s.i) s.i k s.gives in
      let e = entry-is s.i t.i k t.gives in
      record { a = t.i; b = s.i; order = t.below; inside = s.below; taken = e.0; is = e.1 }

  zero_or : (k : ℕ) (xs : List ℕ) → (0 < count k xs → ⊥) → count k xs ≡ 0
  zero_or k xs f = go (dec_lt 0 (count k xs))
    where
      go : Dec (0 < count k xs) → count k xs ≡ 0
      go (yes h) = absurd (f h)
      go (no h) = omega arith

  pub pair-once : (n a b : ℕ) → n ≤ 65536 → a < b → b < n → floor ≤ raised (pair_dot stars a b) → count (key_of stars a b) (pairs_of stars floor n) ≡ 1
  unfolding pairs_of row_of
  pair-once n a b m p q h =
      only_of (row_of stars floor) n (key_of stars a b) b q
      (λ d l o. zero_or _ (row_of stars floor d) (λ c.
      let t = source (entry_of stars floor d) d (key_of stars a b) c in
      let e = entry-is d t.i (key_of stars a b) t.gives in
      o (sym (key-tells stars a b t.i d (omega arith) (omega arith) (omega (arith, t.below)) (omega arith) e.1).1)))
      ∙ only_of (entry_of stars floor b) b (key_of stars a b) a p
      (λ d l o. zero_or _ (entry_of stars floor b d) (λ c.
      let e = entry-is b d (key_of stars a b) c in
      o (sym (key-tells stars a b d b (omega arith) (omega arith) (omega arith) (omega arith) e.1).0)))
      ∙ entry-one b a h

  -- none stands twice
  pub pairs-once : (n : ℕ) → n ≤ 65536 → (k : ℕ) → count k (pairs_of stars floor n) ≤ 1
  pairs-once n m k = go (dec_lt 0 (count k (pairs_of stars floor n)))
    where
      go : Dec (0 < count k (pairs_of stars floor n)) → count k (pairs_of stars floor n) ≤ 1
      go (yes h) =
          let p = pair_of n k h in
          omega (arith, ap (λ (j : ℕ). count j (pairs_of stars floor n)) p.is, pair-once n p.a p.b m p.order p.inside p.taken)
      go (no h) = omega arith

  -- in order, they rise
  pub pairs-rising : (n : ℕ) → n ≤ 65536 → Rising (sorted (pairs_of stars floor n))
  pairs-rising n m =
      sorted-rising (sorted (pairs_of stars floor n)) (sorted-sorted (pairs_of stars floor n))
      (λ k. omega (arith, (sorted-same (pairs_of stars floor n)).count k, pairs-once n m k))
