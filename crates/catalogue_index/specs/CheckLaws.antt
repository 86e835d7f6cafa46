-- The test takes exactly the index: where each record keeps its rule and there are as many as pairs, the bytes are the index, and of the index each
-- record keeps its rule. Assumes nothing.
use Rattle.std.specs.Prelude.{◌≡◌, ℕ, zero, suc, ◌+◌, ◌*◌, ◌/◌, ◌%◌, ◌<◌, ◌≤◌, Bool, true, false, ◌&&◌, List, [], ◌∷◌, length, ℤ, ◌==◌, ◌≢◌, slice_index, refl}
use Rattle.std.proofs.Common.{sym, subst, ◌∙◌, add-one, arith, eqb-true, eq-eqb}
use Rattle.std.proofs.Math.Path.{ap}
use Rattle.std.proofs.Math.Nat.{div-add-mod}
use Rattle.lists.specs.Contradiction.{contradiction}
use Rattle.lists.specs.Laws.{count}
use Rattle.vectors.specs.Triples.{triples, Listed, pair_dot}
use Rattle.catalogue_index.specs.records.Format.{high_at, low_at, key_from, key_at, encoded}
use Rattle.catalogue_index.specs.records.Order.{sorted}
use Rattle.catalogue_index.specs.records.OrderLaws.{sorted-same, sorted-length, sorted_all}
use Rattle.catalogue_index.specs.records.Gap.{Holds}
use Rattle.catalogue_index.specs.records.Carry.{holds-length, holds-key}
use Rattle.catalogue_index.specs.records.Rising.{place, steps-rising, rising_step, within-one, count_at}
use Rattle.catalogue_index.specs.records.Read.{keys_in, keys_length, keys-at, Bytes, low-most, read_back}
use Rattle.catalogue_index.specs.Raised.{raised}
use Rattle.catalogue_index.specs.Index.{key_of, pairs_of, index_of}
use Rattle.catalogue_index.specs.IndexSteps.{index_is}
use Rattle.catalogue_index.specs.KeyLaws.{pairs-keys}
use Rattle.catalogue_index.specs.Pairs.{PairOf, pair_of, pair-once, pairs-rising}
use Rattle.catalogue_index.specs.Check.{equal, is_index, Says, PairOk, RecordOk, key_before, Follows}

-- ---- tests

pub says-yes : {P : Type 0} → P → Says true P
says-yes p = record { holds = λ _. p; fails = λ e _. contradiction (cc) }

pub says-no : {P : Type 0} → (P → ⊥) → Says false P
says-no f = record { holds = λ e. contradiction (cc); fails = λ _. f }

says_both : {t : Bool} {P Q : Type 0} → (P → Q) → (Q → P) → Says t P → Says t Q
says_both f g p = record { holds = λ e. f (p.holds e); fails = λ e q. p.fails e (g q) }

equal-true : (xs ys : List ℕ) → equal xs ys ≡ true → xs ≡ ys
unfolding equal
equal-true [] [] e = refl
equal-true [] (y ∷ ys) e = contradiction (cc)
equal-true (x ∷ xs) [] e = contradiction (cc)
equal-true (x ∷ xs) (y ∷ ys) e = go (x == y) refl e (equal-true xs ys)
  where
    go : (t : Bool) → (x == y) ≡ t → (t && equal xs ys) ≡ true → (equal xs ys ≡ true → xs ≡ ys) → x ∷ xs ≡ y ∷ ys
    go true d f g = λ i. eqb-true x y d i ∷ g f i
    go false d f g = contradiction (cc)

equal-self : (xs : List ℕ) → equal xs xs ≡ true
unfolding equal
equal-self [] = refl
equal-self (x ∷ xs) = rw (eq-eqb x x refl) (equal-self xs)

module _ (stars : List ℤ) (floor : ℤ) (bytes : List ℕ) where
  pub is-index : bytes ≡ index_of stars floor → is_index stars floor bytes ≡ true
  unfolding is_index
  is-index e = ap (λ (l : List ℕ). equal l (index_of stars floor)) e ∙ equal-self (index_of stars floor)

  pub index-true : is_index stars floor bytes ≡ true → bytes ≡ index_of stars floor
  unfolding is_index
  index-true e = equal-true bytes (index_of stars floor) e

  pub no_index : (bytes ≢ index_of stars floor) → is_index stars floor bytes ≡ false
  no_index f = go (is_index stars floor bytes) refl
    where
      go : (t : Bool) → is_index stars floor bytes ≡ t → is_index stars floor bytes ≡ false
      go true e = absurd (f (index-true e))
      go false e = e

-- ---- a record behind the key of the one before

-- the key before the next record is this one's
pub before-next : (bytes : List ℕ) (i : ℕ) → key_before bytes (i + 1) ≡ key_at bytes i
before-next bytes i = rw add-one

module _ (stars : List ℤ) (floor : ℕ) (bytes : List ℕ) where
  abbrev Read : ℕ → Type 0
  Read i = Follows stars floor (key_before bytes i) (high_at bytes i) (low_at bytes i)

  ok_read : (i : ℕ) → Read i → RecordOk stars floor bytes i
  ok_read zero f = record { pair = f.pair; rises = λ j e. absurd (omega arith) }
  ok_read (suc i) f = record {
    pair = f.pair;
    rises = λ j e. let d : i ≡ j = omega arith in subst (λ (n : ℕ). key_at bytes n < key_at bytes (suc i)) d f.rises;
  }

  read_ok : (i : ℕ) → RecordOk stars floor bytes i → Read i
  read_ok zero o = record { pair = o.pair; rises = omega (arith, o.pair.order) }
  read_ok (suc i) o = record { pair = o.pair; rises = o.rises i refl }

  -- what is said of the parts that were read is said of record i
  pub says-record : {t : Bool} {before high low : ℕ} (i : ℕ) → before ≡ key_before bytes i → high ≡ high_at bytes i → low ≡ low_at bytes i
      → Says t (Follows stars floor before high low) → Says t (RecordOk stars floor bytes i)
  says-record {t} i d e f p = says_both (ok_read i) (read_ok i) (subst (λ (s : Type 0). s) (λ k. Says t (Follows stars floor (d k) (e k) (f k))) p)

-- ---- a key and its parts

key-of : (stars : List ℤ) (high low : ℕ) → high ≡ raised (pair_dot stars (low / 65536) (low % 65536))
    → key_from high low ≡ key_of stars (low / 65536) (low % 65536)
unfolding key_of
key-of stars high low e = λ i. key_from (e i) (sym (div-add-mod low 65536) i)

parts : (h l m n : ℕ) → l < 4294967296 → n < 4294967296 → key_from h l ≡ key_from m n → (h ≡ m) × (l ≡ n)
parts h l m n p q e = (omega arith, omega arith)

pair_ok : (stars : List ℤ) (floor high low n : ℕ) → n ≡ triples stars → n ≤ 65536 → low < 4294967296 → PairOf stars floor n (key_from high low)
    → PairOk stars floor high low
unfolding key_of
pair_ok stars floor high low n t m h p =
    let q = parts high low (raised (pair_dot stars p.a p.b)) (65536 * p.a + p.b) h (omega (arith, p.order, p.inside)) p.is in
    let x : low / 65536 ≡ p.a = omega (arith, q.1, p.order, p.inside) in
    let y : low % 65536 ≡ p.b = omega (arith, q.1, p.order, p.inside) in
    record {
      order = omega (arith, p.order);
      inside = omega (arith, p.inside);
      taken = omega (arith, q.0, p.taken);
      is = q.0 ∙ (λ i. raised (pair_dot stars (sym x i) (sym y i)));
    }

-- ---- the test

module _ (stars : List ℤ) (floor : ℕ) (bytes : List ℕ) (s : Listed 512 stars) (b : Bytes bytes) where
  abbrev pairs : List ℕ
  pairs = pairs_of stars floor (triples stars)

  few : triples stars ≤ 65536
  few = omega (arith, s.few)

  -- a record that keeps its rule has the key of a pair
  stands : (i : ℕ) → RecordOk stars floor bytes i → 0 < count (key_at bytes i) (sorted pairs)
  stands i o =
      let p = o.pair in
      let l = low_at bytes i in
      let e : key_at bytes i ≡ key_of stars (l / 65536) (l % 65536) = key-of stars (high_at bytes i) (low_at bytes i) p.is in
      let n = pair-once stars floor (triples stars) (l / 65536) (l % 65536) few p.order p.inside (omega (arith, p.taken, p.is)) in
      omega (arith, ap (λ (k : ℕ). count k (sorted pairs)) e, (sorted-same pairs).count (key_of stars (l / 65536) (l % 65536)))

  pub all-ok : (n : ℕ) → n ≡ length pairs → length bytes ≡ 12 * n → ((i : ℕ) → i < n → RecordOk stars floor bytes i) → bytes ≡ encoded (sorted pairs)
  all-ok n m h o = sym (read_back bytes n b h) ∙ ap encoded one
    where
      ks : List ℕ
      ks = keys_in n bytes

      inside : (k : ℕ) → 0 < count k (keys_in n bytes) → 0 < count k (sorted pairs)
      inside k c =
          let p = place k (keys_in n bytes) c in
          let l : p.i < n = omega (arith, p.inside, keys_length n bytes) in
          subst (λ (j : ℕ). 0 < count j (sorted pairs)) (sym (keys-at n bytes p.i l) ∙ p.at) (stands p.i (o p.i l))

      step : (k : ℕ) → suc k < length (keys_in n bytes) → slice_index (keys_in n bytes) k < slice_index (keys_in n bytes) (suc k)
      step k l =
          let j : suc k < n = omega (arith, keys_length n bytes) in
          omega (arith, keys-at n bytes k (omega arith), keys-at n bytes (suc k) j, (o (suc k) j).rises k refl)

      one : keys_in n bytes ≡ sorted pairs
      one =
          within-one (keys_in n bytes) (sorted pairs) (steps-rising (keys_in n bytes) step) (pairs-rising stars floor (triples stars) few) inside
          (omega (arith, sorted-length pairs, keys_length n bytes))

  -- of the index each record keeps its rule
  module _ (e : bytes ≡ encoded (sorted pairs)) where
    held : Holds (sorted pairs) bytes
    held = record { is = e; keys = sorted_all (λ k. k < 79228162514264337593543950336) pairs (pairs-keys stars s floor (triples stars) s.few) }

    pub index-size : length bytes ≡ 12 * length pairs
    index-size = omega (arith, holds-length held, sorted-length pairs)

    pub ok-all : (i : ℕ) → i < length pairs → RecordOk stars floor bytes i
    ok-all i h =
        record {
          pair = pair_ok stars floor (high_at bytes i) (low_at bytes i) (triples stars) refl few (low-most bytes i b)
              (pair_of stars floor (triples stars) (key_at bytes i) (found i h));
          rises = λ j f.
              omega (
                arith,
                key j (omega arith),
                key i h,
                ap (λ (n : ℕ). slice_index (sorted pairs) n) f,
                rising_step (sorted pairs) (pairs-rising stars floor (triples stars) few) j (omega (arith, sorted-length pairs)),
              );
        }
      where
        key : (k : ℕ) → k < length pairs → key_at bytes k ≡ slice_index (sorted pairs) k
        key k l = holds-key held k (omega (arith, index-size))

        found : (k : ℕ) → k < length pairs → 0 < count (key_at bytes k) pairs
        found k l =
            let c = count_at (sorted pairs) k (omega (arith, sorted-length pairs)) in
            omega (arith, ap (λ (n : ℕ). count n pairs) (key k l), (sorted-same pairs).count (slice_index (sorted pairs) k))

-- the test's outcome is the promised one
pub says-index : (t : Bool) (stars : List ℤ) (floor : ℤ) (bytes : List ℕ) (f : ℕ) → f ≡ raised floor
    → Says t (bytes ≡ encoded (sorted (pairs_of stars f (triples stars)))) → t ≡ is_index stars floor bytes
says-index t stars floor bytes f e p = go t refl
  where
    same : encoded (sorted (pairs_of stars f (triples stars))) ≡ index_of stars floor
    same = ap (λ (n : ℕ). encoded (sorted (pairs_of stars n (triples stars)))) e ∙ index_is stars floor

    go : (b : Bool) → t ≡ b → t ≡ is_index stars floor bytes
    go true d = d ∙ sym (is-index stars floor bytes (p.holds d ∙ same))
    go false d = d ∙ sym (no_index stars floor bytes (λ q. p.fails d (q ∙ sym same)))
