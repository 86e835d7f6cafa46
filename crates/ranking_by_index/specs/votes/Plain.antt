-- The votes of a span of the index are the votes by the plain rule, for one pair of directions. Assumes nothing.
use Rattle.std.specs.Prelude.{Bool, true, ◌&&◌, ◌≡◌, List, [], ◌∷◌, ◌++◌, ltb, leb, eqb, ℤ, length, get_or}
use Rattle.std.proofs.Math.Bool.{false, cond}
use Rattle.std.proofs.Math.Path.{refl, sym, ap}
use Rattle.std.proofs.Common.{◌∙◌, add-zero, lt-ltb, le-ltb, eq-eqb, ne_eqb, SFits}
use Prim.Native.Nat.{ℕ, zero, suc, ◌+◌, ◌*◌, ◌-◌, ◌/◌, ◌%◌, ◌≤◌, ◌<◌}
use Rattle.std.proofs.Math.Decide.{ℕ_discrete, dec_lt, dec_le}
use native.Mathlib.Omega.{arith}
use Rattle.std.proofs.lemmas.Bool.{lt-leb}
use Rattle.std.specs.Int.{w64}
use Rattle.vectors.specs.Triples.{triples, Listed, pair_dot}
use Rattle.vectors.specs.Laws.{pair_comm}
use Rattle.lists.specs.Number.{one, number}
use Rattle.lists.proofs.NumberLaws.{number_same}
use Rattle.ranking_votes.specs.Votes.{other}
use Rattle.catalogue_index.specs.records.Format.{high_at, low_at, key_from, encoded}
use Rattle.catalogue_index.specs.records.Order.{insert, sorted}
use Rattle.catalogue_index.specs.records.OrderLaws.{sorted_all}
use Rattle.catalogue_index.specs.records.Gap.{Holds}
use Rattle.catalogue_index.specs.records.Carry.{holds-length, holds-key}
use Rattle.catalogue_index.specs.records.Read.{Bytes, low-most}
use Rattle.lists.specs.Laws.{by-test}
use Rattle.catalogue_index.specs.Raised.{raised}
use Rattle.catalogue_index.specs.Index.{collected, key_of, entry_of, row_of, pairs_of}
use Rattle.catalogue_index.specs.IndexSteps.{entry-taken, entry-left}
use Rattle.catalogue_index.specs.KeyLaws.{dot-fits, pairs-keys}
use Rattle.ranking_by_index.specs.votes.Span.{named, given, sum_to, span_votes, meets, in_span, row_votes, all_votes}
use Rattle.ranking_by_index.specs.votes.Pair.{pair_votes, plain_votes}
use Rattle.ranking_by_index.specs.votes.Near.{agree-span}

-- ---- sums over a list

sum_over : (ℕ → ℕ) → List ℕ → ℕ
sum_over g [] = 0
sum_over g (x ∷ xs) = g x + sum_over g xs

pub sum_same : (n : ℕ) (f g : ℕ → ℕ) → ((k : ℕ) → k < n → f k ≡ g k) → sum_to n f ≡ sum_to n g
unfolding sum_to
sum_same zero f g h = refl
sum_same (suc n) f g h = rw (sum_same n f g (λ k l. h k (omega arith)), h n (omega arith))

sum-front : (n : ℕ) (f : ℕ → ℕ) → sum_to (suc n) f ≡ f 0 + sum_to n (λ k. f (suc k))
unfolding sum_to
sum-front zero f = omega arith
sum-front (suc n) f = omega (arith, sum-front n f)

sum-list : (g : ℕ → ℕ) (xs : List ℕ) → sum_to (length xs) (λ k. g (get_or xs k 0)) ≡ sum_over g xs
unfolding sum_to sum_over
sum-list g [] = refl
sum-list g (x ∷ xs) = sum-front (length xs) (λ k. g (get_or (x ∷ xs) k 0)) ∙ ap (λ (n : ℕ). g x + n) (sum-list g xs)

over-append : (g : ℕ → ℕ) (xs ys : List ℕ) → sum_over g (xs ++ ys) ≡ sum_over g xs + sum_over g ys
unfolding sum_over
over-append g [] ys = omega arith
over-append g (x ∷ xs) ys = omega (arith, over-append g xs ys)

over-collected : (g : ℕ → ℕ) (f : ℕ → List ℕ) (n : ℕ) → sum_over g (collected n f) ≡ sum_to n (λ i. sum_over g (f i))
unfolding collected sum_to sum_over
over-collected g f zero = refl
over-collected g f (suc n) = over-append g (collected n f) (f n) ∙ ap (λ (m : ℕ). m + sum_over g (f n)) (over-collected g f n)

over-insert : (g : ℕ → ℕ) (x : ℕ) (ys : List ℕ) → sum_over g (insert x ys) ≡ g x + sum_over g ys
unfolding insert sum_over
over-insert g x [] = refl
over-insert g x (y ∷ ys) =
    let i = over-insert g x ys in
    by-test (λ (l : List ℕ). sum_over g l ≡ g x + (g y + sum_over g ys)) (ltb x y) (λ _. refl) (λ _. omega arith)

over-sorted : (g : ℕ → ℕ) (xs : List ℕ) → sum_over g (sorted xs) ≡ sum_over g xs
unfolding sorted sum_over
over-sorted g [] = refl
over-sorted g (x ∷ xs) = over-insert g x (sorted xs) ∙ ap (λ (n : ℕ). g x + n) (over-sorted g xs)

-- ---- each pair is a vote for both its stars

module _ (w : ℕ → ℕ → Bool) (c : ℕ) where
  abbrev gives : ℕ → ℕ → ℕ
  gives b a = meets w c b a

  meets-none : (a b : ℕ) → (c ≡ a → ⊥) → (c ≡ b → ⊥) → gives b a ≡ 0
  meets-none a b p q = rw (ne_eqb c a p, ne_eqb c b q) (go (w a b))
    where
      go : (t : Bool) → cond t (0 + 0) 0 ≡ 0
      go true = refl
      go false = refl

  meets-first : (b : ℕ) → (c ≡ b → ⊥) → gives b c ≡ one (w c b)
  meets-first b q = rw (eq-eqb c c refl, ne_eqb c b q) (go (w c b))
    where
      go : (t : Bool) → cond t (1 + 0) 0 ≡ one t
      go true = refl
      go false = refl

  meets-second : (a : ℕ) → (c ≡ a → ⊥) → gives c a ≡ one (w a c)
  meets-second a p = rw (eq-eqb c c refl, ne_eqb c a p) (go (w a c))
    where
      go : (t : Bool) → cond t (0 + 1) 0 ≡ one t
      go true = refl
      go false = refl

  -- the pairs of star b with those before it
  row_below : (b m : ℕ) → m ≤ c → (c ≡ b → ⊥) → sum_to m (gives b) ≡ 0
  unfolding sum_to
  row_below b zero h d = refl
  row_below b (suc m) h d = omega (arith, row_below b m (omega arith) d, meets-none m b (λ e. omega arith) d)

  row_other : (b m : ℕ) → c < m → (c ≡ b → ⊥) → sum_to m (gives b) ≡ one (w c b)
  unfolding sum_to
  row_other b zero h d = absurd (omega arith)
  row_other b (suc m) h d = go (ℕ_discrete c m) (λ l. row_other b m l d)
    where
      go : Dec (c ≡ m) → (c < m → sum_to m (gives b) ≡ one (w c b)) → sum_to m (gives b) + gives b m ≡ one (w c b)
      go (yes e) f = omega (arith, row_below b m (omega arith) d, ap (gives b) (sym e), meets-first b d)
      go (no n) f = omega (arith, f (omega arith), meets-none m b n d)

  row-own : (m : ℕ) → m ≤ c → sum_to m (gives c) ≡ number m (λ a. w a c)
  unfolding sum_to number
  row-own zero h = refl
  row-own (suc m) h = omega (arith, row-own m (omega arith), meets-second m (λ e. omega arith))

  abbrev test : ℕ → Bool
  test b = other b c && w c b

  all-rows : ((a b : ℕ) → w a b ≡ w b a) → (n : ℕ) → sum_to n (λ b. sum_to b (gives b)) ≡ cond (ltb c n) (number n test) 0
  unfolding sum_to number
  all-rows s zero = rw (le-ltb c 0 (omega arith))
  all-rows s (suc n) = go (dec_lt c n) (ℕ_discrete c n) (all-rows s n)
    where
      go : Dec (c < n) → Dec (c ≡ n) → sum_to n (λ b. sum_to b (gives b)) ≡ cond (ltb c n) (number n test) 0
          → sum_to n (λ b. sum_to b (gives b)) + sum_to n (gives n) ≡ cond (ltb c (suc n)) (number n test + one (test n)) 0
      go (yes l) e i =
          let d : c ≡ n → ⊥ = λ q. omega arith in
          let t : test n ≡ w c n = rw (ne_eqb n c (λ q. omega arith)) in
          rw (lt-ltb c (suc n) (omega arith)) (omega (arith, rw (lt-ltb c n l) at i, row_other n n l d, ap one t))
      go (no l) (yes e) i =
          let own : sum_to n (gives n) ≡ number n (λ a. w a c) = ap (λ (b : ℕ). sum_to n (gives b)) (sym e) ∙ row-own n (omega arith) in
          let t : test n ≡ false = rw (eq-eqb n c (sym e)) in
          let m : number n (λ a. w a c) ≡ number n test = number_same n (λ a. w a c) test (λ k h. s k c ∙ sym (rw (ne_eqb k c (λ q. omega arith)))) in
          rw (lt-ltb c (suc n) (omega arith)) (omega (arith, rw (le-ltb c n (omega arith)) at i, ap one t))
      go (no l) (no e) i =
          rw (le-ltb c (suc n) (omega arith)) (omega (arith, rw (le-ltb c n (omega arith)) at i, row_below n n (omega arith) e))

-- ---- one record

named-ends : (c y a b : ℕ) → y / 65536 ≡ a → y % 65536 ≡ b → named c y ≡ one (eqb c a) + one (eqb c b)
unfolding named
named-ends c y a b p q = λ i. one (eqb c (p i)) + one (eqb c (q i))

none-gives : (g : ℕ → ℕ) → sum_over g [] ≡ 0
unfolding sum_over
none-gives g = refl

single-gives : (stars : List ℤ) (lower upper c a b : ℕ) → 65536 * a + b < 4294967296
    → sum_over (λ k. given lower upper c (k / 4294967296) (k % 4294967296)) (key_of stars a b ∷ [])
    ≡ cond (leb lower (raised (pair_dot stars a b)) && leb (raised (pair_dot stars a b)) upper) (named c (65536 * a + b)) 0
unfolding sum_over key_of given
single-gives stars lower upper c a b h =
    let x = raised (pair_dot stars a b) in
    let y = 65536 * a + b in
    let p : key_from x y / 4294967296 ≡ x = omega arith in
    let r : key_from x y % 4294967296 ≡ y = omega arith in
    add-zero _ ∙ (λ i. cond (leb lower (p i) && leb (p i) upper) (named c (r i)) 0)

-- ---- the index

module _ (stars : List ℤ) (floor lower upper c : ℕ) (s : Listed 512 stars) (h : floor ≤ lower) where
  -- what the record with key k gives
  abbrev by_key : ℕ → ℕ
  by_key k = given lower upper c (k / 4294967296) (k % 4294967296)

  abbrev found : List ℕ
  found = pairs_of stars floor (triples stars)

  -- the record of a pair, if it has one, gives what the pair is to give
  entry_gives : (b a : ℕ) → a < 512 → b < 512 → sum_over by_key (entry_of stars floor b a) ≡ meets (in_span stars lower upper) c b a
  entry_gives b a m n = go (dec_le floor (raised (pair_dot stars a b)))
    where
      go : Dec (floor ≤ raised (pair_dot stars a b)) → sum_over by_key (entry_of stars floor b a) ≡ meets (in_span stars lower upper) c b a
      go (yes l) =
          ap (sum_over by_key) (entry-taken stars floor b a l)
          ∙ single-gives stars lower upper c a b (omega arith)
          ∙ ap (λ (k : ℕ). cond (in_span stars lower upper a b) k 0) (named-ends c (65536 * a + b) a b (omega arith) (omega arith))
      go (no l) =
          ap (sum_over by_key) (entry-left stars floor b a (omega arith))
          ∙ none-gives by_key
          ∙ sym (ap (λ (t : Bool). cond (t && leb (raised (pair_dot stars a b)) upper) (one (eqb c a) + one (eqb c b)) 0)
          (lt-leb lower (raised (pair_dot stars a b)) (omega arith)))

  found-gives : sum_over by_key found ≡ all_votes stars lower upper c
  unfolding pairs_of row_of all_votes row_votes
  found-gives =
      over-collected by_key (row_of stars floor) (triples stars)
      ∙ sum_same (triples stars) _ _ (λ b l.
      over-collected by_key (entry_of stars floor b) b
      ∙ sum_same b _ _ (λ a m. entry_gives b a (omega (arith, s.few)) (omega (arith, s.few))))

  -- the records of a span give what all pairs of the catalogue in that span give, where the span lies above the floor
  module _ (bytes : List ℕ) (b : Bytes bytes) (e : bytes ≡ encoded (sorted found)) where
    held : Holds (sorted found) bytes
    held = record { is = e; keys = sorted_all (λ k. k < 79228162514264337593543950336) found (pairs-keys stars s floor (triples stars) s.few) }

    parts : (k : ℕ) → k < length bytes / 12 → given lower upper c (high_at bytes k) (low_at bytes k) ≡ by_key (get_or (sorted found) k 0)
    parts k m = split (high_at bytes k) (low_at bytes k) (get_or (sorted found) k 0) (low-most bytes k b) (holds-key held k (omega arith))
      where
        split : (high low key : ℕ) → low < 4294967296 → key_from high low ≡ key → given lower upper c high low ≡ by_key key
        split high low key p r =
            let x : high ≡ key / 4294967296 = omega arith in
            let y : low ≡ key % 4294967296 = omega arith in
            λ i. given lower upper c (x i) (y i)

    pub span-all : span_votes bytes lower upper c ≡ all_votes stars lower upper c
    unfolding span_votes
    span-all =
        sum_same (length bytes / 12) _ (λ k. by_key (get_or (sorted found) k 0)) parts
        ∙ ap (λ (n : ℕ). sum_to n (λ k. by_key (get_or (sorted found) k 0))) (omega (arith, holds-length held))
        ∙ sum-list by_key (sorted found)
        ∙ over-sorted by_key found
        ∙ found-gives

-- ---- the plain rule

-- all pairs in the span around a dot product give each star its votes by the plain rule
pub all_plain : (stars : List ℤ) (q : ℤ) (tolerance c : ℕ) → Listed 512 stars → SFits w64 q
    → all_votes stars (raised q - tolerance) (raised q + tolerance) c ≡ plain_votes stars q tolerance c
unfolding all_votes row_votes pair_votes plain_votes
all_plain stars q tolerance c s f =
    all-rows near c (λ a b. ap (λ (z : ℤ). leb (raised q - tolerance) (raised z) && leb (raised z) (raised q + tolerance)) (pair_comm stars a b))
    (triples stars)
    ∙ ap (λ (n : ℕ). cond (ltb c (triples stars)) n 0)
    (number_same (triples stars) (test near c) _ (λ b l. ap (λ (t : Bool). other b c && t)
    (sym (agree-span q (pair_dot stars c b) tolerance f (dot-fits stars s c b)))))
  where
    near : ℕ → ℕ → Bool
    near = in_span stars (raised q - tolerance) (raised q + tolerance)
