-- What the list of changes is, in plain terms, for any two valid catalogues: an identity is listed with 1 exactly if some record of the first has it
-- and none of the second does, with 2 the other way round, and with 3 exactly if both have it and x, y, z or the magnitude differs; identities rise
-- strictly, so that each stands once; and nothing else is listed. Assumes nothing.
use Rattle.std.specs.Prelude.{Bool, true, false, cond, not, ◌⊎◌, ◌≡◌, List, ℕ, ◌+◌, ◌*◌, ◌≤◌, ◌<◌, length, get_or}
use Rattle.std.proofs.Common.{inl, inr, sym, ap, ◌∙◌, arith}
use Rattle.std.proofs.Math.Decide.{dec_lt}
use borrow.Author.Tests.{eqb-true, eqb-false, ltb-true, ne_eqb, not-true}
use Rattle.std.proofs.Math.Dec.{eqb}
use Rattle.lists.specs.Contradiction.{contradiction}
use Rattle.lists.proofs.First.{first-is}
use Rattle.catalogue.specs.Format.{records_in, identity_of}
use Rattle.catalogue.specs.Valid.{Valid}
use Rattle.catalogue_compare.specs.Changes.{place_of, has, differ, kind_of, is_listed, listed, changes_of}
use Rattle.catalogue_compare.specs.DifferLaws.{differ-some, differ-any}
use Rattle.catalogue_compare.specs.Places.{Rises, valid-rises, place_is, place_none, place-has}
use Rattle.catalogue_compare.specs.Kinds.{kind-first, kind-second, kind-both, Way, only-first, only-second, differing, same, neither}
use Rattle.catalogue_compare.proofs.KindLaws.{way}
use Rattle.lists.proofs.Below.{Passing, passing}
use Rattle.catalogue_compare.specs.Encoded.{changes-length}
use Rattle.catalogue_compare.specs.Read.{identity_at, kind_at, read-identity, read-kind}
use Rattle.catalogue_compare.specs.Fields.{apart-field, field_apart}
use Rattle.catalogue_compare.specs.Laws.{Has, Moved, Lists}

module _ (bytes : List ℕ) (x : ℕ) where
  pub has_some : has bytes x ≡ true → Has bytes x
  unfolding place_of
  has_some e =
      let h = ltb-true (place_of bytes x) (records_in bytes) e in
      record { place = place_of bytes x; inside = h; is = eqb-true _ _ ((first-is (λ i. eqb (identity_of bytes i) x) (records_in bytes)).taken h) }

  none_has : (Has bytes x → ⊥) → has bytes x ≡ false
  none_has n = place_none bytes x (λ k h e. n (record { place = k; inside = h; is = e }))

-- in a catalogue whose identities rise it is one record
pub the-place : {bytes : List ℕ} (r : Rises bytes) (x : ℕ) (h : Has bytes x) → place_of bytes x ≡ h.place
the-place {bytes} r x h = place_is bytes x h.place h.inside h.is (λ k l e. omega (arith, r.rising k h.place l h.inside, h.is))

pub some-has : {bytes : List ℕ} → Rises bytes → (x : ℕ) → Has bytes x → has bytes x ≡ true
some-has {bytes} r x h = place-has bytes x h.place h.inside (the-place r x h)

kind-small : (first second : List ℕ) (x : ℕ) → kind_of first second x < 4294967296
kind-small first second x = go (way first second x)
  where
    go : Way first second x → kind_of first second x < 4294967296
    go (only-first a b e) = omega arith
    go (only-second a b e) = omega arith
    go (differing a b d e) = omega arith
    go (same a b d e) = omega arith
    go (neither a b e) = omega arith

module _ (first second : List ℕ) where
  pub listed-passing : Passing (is_listed first second) 4294967296 (listed first second)
  unfolding listed
  listed-passing = passing (is_listed first second) 4294967296

  abbrev list : List ℕ
  list = changes_of first second

  inside : (p : ℕ) → 8 * p + 8 ≤ length list → p < length (listed first second)
  inside p h = omega (arith, changes-length first second)

  at-identity : (p : ℕ) → p < length (listed first second) → identity_at list p ≡ get_or (listed first second) p 0
  unfolding changes_of
  at-identity p h = read-identity (kind_of first second) (listed first second) (λ k l. (listed-passing.each k l).0) p h

  at-kind : (p : ℕ) → p < length (listed first second) → kind_at list p ≡ kind_of first second (get_or (listed first second) p 0)
  unfolding changes_of
  at-kind p h = read-kind (kind_of first second) (listed first second) (kind-small first second) p h

  -- the identities rise strictly
  pub rising : (p q : ℕ) → p < q → 8 * q + 8 ≤ length list → identity_at list p < identity_at list q
  rising p q h k =
      let m = inside q k in
      omega (arith, at-identity p (omega arith), at-identity q m, listed-passing.rises p q h m)

  -- so each stands once
  pub once : (x kind other : ℕ) (a : Lists list x kind) (b : Lists list x other) → a.place ≡ b.place
  once x kind other a b = go (dec_lt a.place b.place) (dec_lt b.place a.place)
    where
      go : Dec (a.place < b.place) → Dec (b.place < a.place) → a.place ≡ b.place
      go (yes h) _ = absurd (omega (arith, rising a.place b.place h b.inside, a.is, b.is))
      go (no h) (yes k) = absurd (omega (arith, rising b.place a.place k a.inside, a.is, b.is))
      go (no h) (no k) = omega arith

  -- what is listed is what is said of the identity, and something is said
  lists-kind : (x kind : ℕ) → Lists list x kind → (kind_of first second x ≡ kind) × (kind ≡ 0 → ⊥)
  lists-kind x kind l =
      let p = inside l.place l.inside in
      let e : get_or (listed first second) l.place 0 ≡ x = sym (at-identity l.place p) ∙ l.is in
      let k = ap (kind_of first second) (sym e) ∙ sym (at-kind l.place p) ∙ l.says in
      (k, λ z. eqb-false _ _ (not-true _ (listed-passing.each l.place p).1) (ap (kind_of first second) e ∙ k ∙ z))

  pub kind-lists : (x kind : ℕ) → x < 4294967296 → kind_of first second x ≡ kind → (kind ≡ 0 → ⊥) → Lists list x kind
  kind-lists x kind h e n =
      let p = listed-passing.all x h (ap not (ne_eqb (kind_of first second x) 0 (λ z. n (sym e ∙ z)))) in
      record {
        place = p.place;
        inside = omega (arith, p.inside, changes-length first second);
        is = at-identity p.place p.inside ∙ p.is;
        says = at-kind p.place p.inside ∙ ap (kind_of first second) p.is ∙ e;
      }

  -- no other number is said
  pub one_of_three : (x kind : ℕ) → Lists list x kind → (kind ≡ 1) ⊎ ((kind ≡ 2) ⊎ (kind ≡ 3))
  one_of_three x kind l = go (lists-kind x kind l) (way first second x)
    where
      go : (kind_of first second x ≡ kind) × (kind ≡ 0 → ⊥) → Way first second x → (kind ≡ 1) ⊎ ((kind ≡ 2) ⊎ (kind ≡ 3))
      go k (only-first a b e) = inl (omega (arith, k.0))
      go k (only-second a b e) = inr (inl (omega (arith, k.0)))
      go k (differing a b d e) = inr (inr (omega (arith, k.0)))
      go k (same a b d e) = absurd (k.1 (omega (arith, k.0)))
      go k (neither a b e) = absurd (k.1 (omega (arith, k.0)))

  -- ---- what each number says

  module _
      (bytes-first : (n : ℕ) → get_or first n 0 < 256) (bytes-second : (n : ℕ) → get_or second n 0 < 256)
      (v : Valid first) (w : Valid second) where
    r : Rises first
    r = valid-rises bytes-first v

    q : Rises second
    q = valid-rises bytes-second w

    has-narrow : {bytes : List ℕ} → Rises bytes → (x : ℕ) → Has bytes x → x < 4294967296
    has-narrow s x h = omega (arith, s.narrow h.place, h.is)

    no_record : {bytes : List ℕ} {x : ℕ} → Rises bytes → has bytes x ≡ false → Has bytes x → ⊥
    no_record s e h = contradiction (sym e ∙ some-has s _ h)

    -- 1
    pub one_only : (x : ℕ) → Lists list x 1 → Has first x × (Has second x → ⊥)
    one_only x l = go (lists-kind x 1 l).0 (way first second x)
      where
        go : kind_of first second x ≡ 1 → Way first second x → Has first x × (Has second x → ⊥)
        go k (only-first a b e) = (has_some first x a, no_record q b)
        go k (only-second a b e) = absurd (omega arith)
        go k (differing a b d e) = absurd (omega arith)
        go k (same a b d e) = absurd (omega arith)
        go k (neither a b e) = absurd (omega arith)

    pub only_one : (x : ℕ) → Has first x → (Has second x → ⊥) → Lists list x 1
    only_one x h n = kind-lists x 1 (has-narrow r x h) (kind-first first second x (some-has r x h) (none_has second x n)) (λ z. omega arith)

    -- 2
    pub two-only : (x : ℕ) → Lists list x 2 → (Has first x → ⊥) × Has second x
    two-only x l = go (lists-kind x 2 l).0 (way first second x)
      where
        go : kind_of first second x ≡ 2 → Way first second x → (Has first x → ⊥) × Has second x
        go k (only-first a b e) = absurd (omega arith)
        go k (only-second a b e) = (no_record r a, has_some second x b)
        go k (differing a b d e) = absurd (omega arith)
        go k (same a b d e) = absurd (omega arith)
        go k (neither a b e) = absurd (omega arith)

    pub only_two : (x : ℕ) → (Has first x → ⊥) → Has second x → Lists list x 2
    only_two x n h = kind-lists x 2 (has-narrow q x h) (kind-second first second x (none_has first x n) (some-has q x h)) (λ z. omega arith)

    -- 3
    pub three-moved : (x : ℕ) → Lists list x 3 → Moved first second x
    unfolding place_of has_some
    three-moved x l = go (lists-kind x 3 l).0 (way first second x)
      where
        go : kind_of first second x ≡ 3 → Way first second x → Moved first second x
        go k (only-first a b e) = absurd (omega arith)
        go k (only-second a b e) = absurd (omega arith)
        go k (differing a b d e) =
            let o = differ-some first (place_of first x) second (place_of second x) d in
            record {
              one = has_some first x a;
              other = has_some second x b;
              apart = field_apart first (place_of first x) second (place_of second x) bytes-first bytes-second o.k o.inside o.apart;
            }
        go k (same a b d e) = absurd (omega arith)
        go k (neither a b e) = absurd (omega arith)

    pub moved-three : (x : ℕ) → Moved first second x → Lists list x 3
    moved-three x m =
        let i = the-place r x m.one in
        let j = the-place q x m.other in
        let o = apart-field first m.one.place second m.other.place m.apart in
        let d = differ-any first m.one.place second m.other.place o.k o.inside o.apart in
        let e = (λ k. differ first (i k) second (j k)) ∙ d in
        kind-lists x 3 (has-narrow r x m.one)
        (kind-both first second x (some-has r x m.one) (some-has q x m.other) ∙ ap {B = ℕ} (λ (t : Bool). cond t 3 0) e)
        (λ z. omega arith)
