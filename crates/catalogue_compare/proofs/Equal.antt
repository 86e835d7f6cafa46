-- The list is empty exactly where the two catalogues are equal, byte for byte. Assumes nothing.
use Rattle.std.specs.Prelude.{true, false, ◌≡◌, List, [], ◌∷◌, length, get_or}
use Rattle.std.proofs.Math.Path.{refl, sym}
use Rattle.std.proofs.Common.{ap, subst, ◌∙◌, not-suc-le-zero, take_all}
use Prim.Native.Nat.{ℕ, zero, suc, ◌+◌, ◌*◌, ◌/◌, ◌%◌, ◌≤◌, ◌<◌}
use Rattle.std.proofs.Math.Decide.{dec_lt, ℕ_discrete}
use native.Mathlib.Omega.{arith}
use Rattle.std.proofs.lemmas.Bool.{eqb-false, not-true}
use Rattle.lists.specs.Contradiction.{contradiction}
use Rattle.words.specs.Number.{number_at}
use Rattle.words.specs.NumberLaws.{number-join}
use Rattle.words.specs.Bytes.{bytes_of}
use Rattle.words.specs.BytesLaws.{write-back}
use Rattle.catalogue.specs.Format.{record_size, records_in, identity_of}
use Rattle.catalogue.specs.Valid.{Valid}
use Rattle.catalogue_compare.specs.Changes.{place_of, has, fields, field_of, differ, kind_of, listed, changes_of}
use Rattle.catalogue_compare.specs.DifferLaws.{differ-none, differ_same}
use Rattle.catalogue_compare.specs.Places.{Rises, valid-rises}
use Rattle.catalogue_compare.specs.Kinds.{Way, only-first, only-second, differing, same, neither}
use Rattle.catalogue_compare.proofs.KindLaws.{way}
use Rattle.catalogue_compare.specs.Encoded.{changes-length}
use Rattle.catalogue_compare.specs.Laws.{Has}
use Rattle.catalogue_compare.proofs.Laws.{has_some, the-place, some-has, listed-passing, kind-lists}

no_bytes : (l : List ℕ) → length l ≡ 0 → l ≡ []
no_bytes [] e = refl
no_bytes (x ∷ xs) e = absurd (omega arith)

-- ---- equal catalogues

-- nothing is said of an identity
same_kind : (bytes : List ℕ) (x : ℕ) → kind_of bytes bytes x ≡ 0
same_kind bytes x = go (way bytes bytes x)
  where
    go : Way bytes bytes x → kind_of bytes bytes x ≡ 0
    go (only-first a b e) = contradiction (sym b ∙ a)
    go (only-second a b e) = contradiction (sym a ∙ b)
    go (differing a b d e) = contradiction (sym (differ-none bytes (place_of bytes x) bytes (place_of bytes x) (λ n h. refl)) ∙ d)
    go (same a b d e) = e
    go (neither a b e) = e

same-empty : (bytes : List ℕ) → changes_of bytes bytes ≡ []
same-empty bytes = no_bytes (changes_of bytes bytes) (go (dec_lt 0 (length (listed bytes bytes))))
  where
    go : Dec (0 < length (listed bytes bytes)) → length (changes_of bytes bytes) ≡ 0
    go (yes h) = absurd (eqb-false _ _ (not-true _ ((listed-passing bytes bytes).each 0 h).1) (same_kind bytes _))
    go (no h) = omega (arith, changes-length bytes bytes)

pub equal-empty : (first second : List ℕ) → first ≡ second → changes_of first second ≡ []
equal-empty first second e = ap (changes_of first) (sym e) ∙ same-empty first

-- ---- the words of a list decide its bytes

module _ (xs ys : List ℕ) (words : (q : ℕ) → 4 * q + 4 ≤ length xs → number_at xs (4 * q) 4 ≡ number_at ys (4 * q) 4) where
  number-to : (n : ℕ) → 4 * n ≤ length xs → number_at xs 0 (4 * n) ≡ number_at ys 0 (4 * n)
  unfolding number_at
  number-to zero h = refl
  number-to (suc n) h =
      let e : 4 * suc n ≡ 4 * n + 4 = omega arith in
      let z : 0 + 4 * n ≡ 4 * n = omega arith in
      let a = number-join xs 0 (4 * n) 4 in
      let b = number-join ys 0 (4 * n) 4 in
      rw (e, a, b, z, number-to n (omega arith), words n (omega arith))

  words-decide : (n : ℕ) → length xs ≡ 4 * n → length ys ≡ 4 * n → ((k : ℕ) → get_or xs k 0 < 256) → ((k : ℕ) → get_or ys k 0 < 256) → xs ≡ ys
  words-decide n h k b c =
      sym (take_all (4 * n) xs (omega arith))
      ∙ sym (write-back xs 0 (4 * n) b (omega arith))
      ∙ ap (bytes_of (4 * n)) (number-to n (omega arith))
      ∙ write-back ys 0 (4 * n) c (omega arith)
      ∙ take_all (4 * n) ys (omega arith)

-- ---- the same identities, one after the other

module _ {first second : List ℕ} (r : Rises first) (q : Rises second) (to : (x : ℕ) → Has first x → Has second x) (from : (x : ℕ) → Has second x → Has first x)
  where
    -- record k of both has the same
    Aligned : ℕ → Type 0
    Aligned k = (k < records_in second) × (identity_of first k ≡ identity_of second k)

    least : {bytes : List ℕ} → Rises bytes → (i k : ℕ) → i ≤ k → k < records_in bytes → identity_of bytes i ≤ identity_of bytes k
    least {bytes} s i k h l = go (ℕ_discrete i k)
      where
        go : Dec (i ≡ k) → identity_of bytes i ≤ identity_of bytes k
        go (yes e) = omega (arith, ap (identity_of bytes) e)
        go (no d) = omega (arith, s.rising i k (omega arith) l)

    next : (k : ℕ) → k < records_in first → ((i : ℕ) → i < k → Aligned i) → Aligned k
    unfolding Aligned
    next k h f =
        let a = to (identity_of first k) (record { place = k; inside = h; is = refl }) in
        let j = not-before a in
        let l : k < records_in second = omega (arith, j, a.inside) in
        let b = from (identity_of second k) (record { place = k; inside = l; is = refl }) in
        let i = not_behind l b in
        (l, omega (arith, least r k b.place i b.inside, least q k a.place j a.inside, a.is, b.is))
      where
        not-before : (a : Has second (identity_of first k)) → k ≤ a.place
        not-before a = go (dec_lt a.place k)
          where
            go : Dec (a.place < k) → k ≤ a.place
            go (yes m) = absurd (omega (arith, (f a.place m).1, a.is, r.rising a.place k m h))
            go (no m) = omega arith

        not_behind : (l : k < records_in second) (b : Has first (identity_of second k)) → k ≤ b.place
        not_behind l b = go (dec_lt b.place k)
          where
            go : Dec (b.place < k) → k ≤ b.place
            go (yes m) = absurd (omega (arith, (f b.place m).1, b.is, q.rising b.place k m l))
            go (no m) = omega arith

    all-below : (n : ℕ) → n ≤ records_in first → (i : ℕ) → i < n → Aligned i
    all-below zero h i l = absurd (not-suc-le-zero l)
    all-below (suc n) h i l = go (ℕ_discrete i n) (all-below n (omega arith))
      where
        go : Dec (i ≡ n) → ((j : ℕ) → j < n → Aligned j) → Aligned i
        go (yes e) f = subst Aligned (sym e) (next n h f)
        go (no d) f = f i (omega arith)

    pub aligned : (k : ℕ) → k < records_in first → (k < records_in second) × (identity_of first k ≡ identity_of second k)
    unfolding Aligned
    aligned k h = all-below (records_in first) (omega arith) k h

    pub no_more : records_in first ≤ records_in second
    no_more = go (records_in first) refl
      where
        go : (m : ℕ) → records_in first ≡ m → records_in first ≤ records_in second
        go zero e = omega arith
        go (suc m) e = omega (arith, (aligned m (omega arith)).0)

-- ---- an empty list

module _
    (first second : List ℕ) (bytes-first : (n : ℕ) → get_or first n 0 < 256) (bytes-second : (n : ℕ) → get_or second n 0 < 256)
    (v : Valid first) (w : Valid second) (empty : changes_of first second ≡ []) where
  r : Rises first
  r = valid-rises bytes-first v

  q : Rises second
  q = valid-rises bytes-second w

  silent : (x : ℕ) → x < 4294967296 → kind_of first second x ≡ 0
  silent x h = go (ℕ_discrete (kind_of first second x) 0)
    where
      go : Dec (kind_of first second x ≡ 0) → kind_of first second x ≡ 0
      go (yes e) = e
      go (no d) = absurd (omega (arith, (kind-lists first second x (kind_of first second x) h refl d).inside, ap length empty))

  -- what one has the other has, with the same words
  Alike : ℕ → Type 0
  Alike x = (has first x ≡ true) × (has second x ≡ true) × (differ first (place_of first x) second (place_of second x) ≡ false)

  alike : (x : ℕ) → x < 4294967296 → (has first x ≡ false → has second x ≡ false → ⊥) → Alike x
  unfolding Alike
  alike x h some = go (silent x h) (way first second x)
    where
      go : kind_of first second x ≡ 0 → Way first second x → (has first x ≡ true) × (has second x ≡ true)
          × (differ first (place_of first x) second (place_of second x) ≡ false)
      go k (only-first a b e) = absurd (omega arith)
      go k (only-second a b e) = absurd (omega arith)
      go k (differing a b d e) = absurd (omega arith)
      go k (same a b d e) = (a, b, d)
      go k (neither a b e) = absurd (some a b)

  alike-first : (x : ℕ) → Has first x → Alike x
  alike-first x h = alike x (omega (arith, r.narrow h.place, h.is)) (λ a b. contradiction (sym a ∙ some-has r x h))

  alike-second : (x : ℕ) → Has second x → Alike x
  alike-second x h = alike x (omega (arith, q.narrow h.place, h.is)) (λ a b. contradiction (sym b ∙ some-has q x h))

  to : (x : ℕ) → Has first x → Has second x
  unfolding Alike
  to x h = has_some second x (alike-first x h).1

  from : (x : ℕ) → Has second x → Has first x
  unfolding Alike
  from x h = has_some first x (alike-second x h).0

  as_many : records_in first ≡ records_in second
  as_many = omega (arith, no_more r q to from, no_more q r from to)

  field-same : (i : ℕ) → i < records_in first → (k : ℕ) → k < fields → field_of first i k ≡ field_of second i k
  unfolding Alike
  field-same i h k l =
      let x = identity_of first i in
      let a = aligned r q to from i h in
      let one : Has first x = record { place = i; inside = h; is = refl } in
      let other : Has second x = record { place = i; inside = a.0; is = sym a.1 } in
      let m = the-place r x one in
      let n = the-place q x other in
      differ_same first i second i ((λ z. differ first (sym m z) second (sym n z)) ∙ (alike-first x one).2) k l

  -- word t of record i
  word_same : (i t : ℕ) → i < records_in first → t ≤ fields → number_at first (record_size * i + 4 * t) 4 ≡ number_at second (record_size * i + 4 * t) 4
  unfolding identity_of
  word_same i zero h l =
      let e : record_size * i + 4 * 0 ≡ record_size * i = omega arith in
      rw e (aligned r q to from i h).1
  word_same i (suc k) h l =
      let e : record_size * i + 4 * suc k ≡ record_size * i + (4 + 4 * k) = omega arith in
      rw e (field-same i h k (omega arith))

  pub empty-equal : first ≡ second
  empty-equal =
      words-decide first second each (record_size / 4 * records_in first) (omega (arith, v.size.whole)) (omega (arith, w.size.whole, as_many)) bytes-first
      bytes-second
    where
      each : (n : ℕ) → 4 * n + 4 ≤ length first → number_at first (4 * n) 4 ≡ number_at second (4 * n) 4
      each n h =
          let e : 4 * n ≡ record_size * (n / (record_size / 4)) + 4 * (n % (record_size / 4)) = omega arith in
          ap (λ (m : ℕ). number_at first m 4) e
          ∙ word_same (n / (record_size / 4)) (n % (record_size / 4)) (omega (arith, v.size.whole)) (omega arith)
          ∙ ap (λ (m : ℕ). number_at second m 4) (sym e)
