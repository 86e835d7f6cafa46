-- The test of a lent ranking says that each row names each star exactly once, and says so exactly then. Assumes nothing.
use mathlib.Core.Path.{◌≡◌, refl, sym, ◌∙◌, ap}
use mathlib.Core.Bool.{Bool, true, false, cond}
use mathlib.Core.List.{List}
use mathlib.Core.Logic.{⊎_elim}
use Prim.Native.Nat.{ℕ, suc, ◌+◌, ◌*◌, ◌-◌, ◌/◌, ◌%◌, ◌≤◌, ◌<◌}
use native.Mathlib.Omega.{arith}
use native.Mathlib.Nat.{eq-or-lt_of_le, suc-mul, mul-add-div_right, mul-add-mod_self_right, mod-eq_of_lt, mod-lt, div-eq_of_lt, div-lt_iff_lt-mul}
use lib.ListN.{get_or, length, take, drop}
use lib.Dec.{leb, ltb, eqb}
use Rattle.std.proofs.Common.{length-drop}
use Rattle.std.proofs.lemmas.List.{length-take, get_or-take, get_or-drop}
use Rattle.lists.specs.TestsLaws.{some_same}
use borrow.Author.Tests.{le-leb, lt-leb, leb-false, eq-eqb, ne_eqb, eqb-true, eqb-false, lt-ltb, le-ltb, ltb-false}
use Rattle.lists.specs.Contradiction.{contradiction}
use Rattle.lists.specs.First.{first}
use Rattle.lists.proofs.First.{first-is, first_of}
use Rattle.search_theory.specs.Order.{Ranked}
use Rattle.search_theory.proofs.Tests as tests
use Rattle.search_theory.proofs.Tests.{le-or-lt}
use Rattle.search_theory.proofs.Pigeon.{Into, onto}
use Rattle.search_fit.specs.Fit.{ranking_of}
use Rattle.search.specs.Once.{word, clash, clash_at, judged, lent_of}
use Rattle.search_backtrack.proofs.Rows.{row_fits}
use Rattle.std.specs.Prelude.{Result, Ok, Err}

-- ---- one word

module _ (words : List ℕ) (stars base k : ℕ) where
  pub clash-range : stars ≤ word words base k → clash words stars base k ≡ true
  unfolding clash
  clash-range h = tests.or_left _ _ (le-leb stars (word words base k) h)

  pub clash-repeat : (l : ℕ) → l < k → word words base l ≡ word words base k → clash words stars base k ≡ true
  unfolding clash
  clash-repeat l h e = tests.or_right (leb stars (word words base k)) _ (tests.some_of k _ l h (eq-eqb (word words base l) (word words base k) e))

  pub clash-free : word words base k < stars → ((l : ℕ) → l < k → word words base l ≡ word words base k → ⊥) → clash words stars base k ≡ false
  unfolding clash
  clash-free h d = tests.or-none _ _ (lt-leb stars (word words base k) h) (tests.some-none k _ (λ l m. ne_eqb (word words base l) (word words base k) (d l m)))

  pub free-below : clash words stars base k ≡ false → word words base k < stars
  unfolding clash
  free-below e = omega (arith, leb-false stars (word words base k) (tests.none_left _ _ e))

  pub free-once : clash words stars base k ≡ false → (l : ℕ) → l < k → word words base l ≡ word words base k → ⊥
  unfolding clash
  free-once e l h = eqb-false (word words base l) (word words base k) (tests.none-some k _ (tests.none_right (leb stars (word words base k)) _ e) l h)

-- ---- rows

module _ (words : List ℕ) (stars : ℕ) where
  pub at_row : (i k : ℕ) → k < stars → clash_at words stars (i * stars + k) ≡ clash words stars (i * stars) k
  at_row i k l =
      let p : 0 < stars = omega arith in
      let d : (i * stars + k) / stars ≡ i = mul-add-div_right p i k ∙ ap (λ (z : ℕ). i + z) (div-eq_of_lt l) ∙ omega arith in
      let m : (i * stars + k) % stars ≡ k = mul-add-mod_self_right i stars k ∙ mod-eq_of_lt l in
      rw (d, m)

  -- the rows passed have no word that clashes, and one row more
  pub rows_more : (i : ℕ) → ((q : ℕ) → q < i * stars → clash_at words stars q ≡ false) → stars ≤ first (clash words stars (i * stars)) stars → (q : ℕ)
      → q < (i + 1) * stars → clash_at words stars q ≡ false
  rows_more i h full q l =
      ⊎_elim
      (λ (a : i * stars ≤ q).
      let e : q ≡ i * stars + (q - i * stars) = omega arith in
      let k : q - i * stars < stars = omega (arith, suc-mul i stars, ap (λ (z : ℕ). z * stars) (one_more i)) in
      ap (clash_at words stars) e ∙ at_row i (q - i * stars) k ∙ (first-is (clash words stars (i * stars)) stars).none (q - i * stars) (omega arith))
      (λ (a : q < i * stars). h q a)
      (le-or-lt (i * stars) q)
    where
      one_more : (i : ℕ) → i + 1 ≡ suc i
      one_more i = omega arith

-- ---- a row by itself, as a part of the ranking

module _ (words : List ℕ) (stars base : ℕ) where
  abbrev row : List ℕ
  row = take (base + stars - base) (drop base words)

  pub row-length : base + stars ≤ length words → length row ≡ stars
  row-length h = omega (arith, length-take (base + stars - base) (drop base words), length-drop base words)

  row-word : (k : ℕ) → k < stars → word row 0 k ≡ word words base k
  row-word k h =
      let z : 0 + k ≡ k = omega arith in
      ap (λ (n : ℕ). get_or row n 0) z ∙ get_or-take (base + stars - base) (drop base words) k 0 (omega arith) ∙ get_or-drop base words k 0

  row-clash : (k : ℕ) → k < stars → clash row stars 0 k ≡ clash words stars base k
  unfolding clash
  row-clash k h = rw (
    row-word k h,
    some_same k (λ l. eqb (word row 0 l) (word words base k)) (λ l. eqb (word words base l) (word words base k))
        (λ l m. ap (λ (n : ℕ). eqb n (word words base k)) (row-word l (omega arith))),
  )

  -- it clashes first where it does in the ranking
  pub row-first : base + stars ≤ length words → first (clash row stars 0) (length row) ≡ first (clash words stars base) stars
  row-first h =
      let w = first-is (clash row stars 0) stars in
      rw (row-length h)
      (first_of (clash words stars base) stars (record {
        most = w.most;
        none = λ k l. sym (row-clash k (omega (arith, w.most))) ∙ w.none k l;
        taken = λ l. sym (row-clash _ l) ∙ w.taken l;
      }))

-- ---- the whole ranking

module _ (words : List ℕ) (dirs stars : ℕ) where
  pub wrong-length : (length words ≡ dirs * stars → ⊥) → Err 0 ≡ lent_of words dirs stars
  unfolding lent_of
  wrong-length d = rw (ne_eqb (length words) (dirs * stars) d)

  pub first-bad : length words ≡ dirs * stars → (i k : ℕ) → i < dirs → ((q : ℕ) → q < i * stars → clash_at words stars q ≡ false)
      → k ≡ first (clash words stars (i * stars)) stars → k < stars → Err (i * stars + k) ≡ lent_of words dirs stars
  unfolding lent_of
  first-bad e i k li h f lk =
      let w = first-is (clash words stars (i * stars)) stars in
      let le : i * stars + k < dirs * stars = omega (arith, row_fits i dirs stars li) in
      let p : i * stars + k ≡ first (clash_at words stars) (dirs * stars) =
      first_of (clash_at words stars) (dirs * stars)
      (record {
        most = omega arith;
        none = λ q l. ⊎_elim
            (λ (a : i * stars ≤ q).
            let s : q ≡ i * stars + (q - i * stars) = omega arith in
            ap (clash_at words stars) s ∙ at_row words stars i (q - i * stars) (omega arith) ∙ w.none (q - i * stars) (omega arith))
            (λ (a : q < i * stars). h q a)
            (le-or-lt (i * stars) q);
        taken = λ _. at_row words stars i k lk ∙ ap (clash words stars (i * stars)) f ∙ w.taken (omega arith);
      }) in
      rw (eq-eqb (length words) (dirs * stars) e, ← p, lt-ltb (i * stars + k) (dirs * stars) le)

  pub all-good : length words ≡ dirs * stars → ((q : ℕ) → q < dirs * stars → clash_at words stars q ≡ false) → (Ok tt) ≡ lent_of words dirs stars
  unfolding lent_of
  all-good e h =
      let p : dirs * stars ≡ first (clash_at words stars) (dirs * stars) =
      first_of (clash_at words stars) (dirs * stars) (record { most = omega arith; none = h; taken = λ l. absurd (omega arith) }) in
      rw (eq-eqb (length words) (dirs * stars) e, ← p, le-ltb (dirs * stars) (dirs * stars) (omega arith))

  -- what a good ranking is: it has the length, and no word clashes
  good_length : lent_of words dirs stars ≡ Ok tt → length words ≡ dirs * stars
  unfolding lent_of
  good_length e = by (eqb (length words) (dirs * stars)) refl e
    where
      by : (b : Bool) → eqb (length words) (dirs * stars) ≡ b → cond b (judged (dirs * stars) (first (clash_at words stars) (dirs * stars))) (Err 0) ≡ Ok tt
          → length words ≡ dirs * stars
      by true q e = eqb-true (length words) (dirs * stars) q
      by false q e = contradiction (cc)

  good-free : lent_of words dirs stars ≡ Ok tt → (q : ℕ) → q < dirs * stars → clash_at words stars q ≡ false
  unfolding lent_of
  good-free e = by (ltb (first (clash_at words stars) (dirs * stars)) (dirs * stars)) refl (rw (eq-eqb (length words) (dirs * stars) (good_length e)) at e)
    where
      p : ℕ
      p = first (clash_at words stars) (dirs * stars)

      by : (b : Bool) → ltb p (dirs * stars) ≡ b → ◌≡◌ {A = Result Unit ℕ} (cond b (Err p) (Ok tt)) (Ok tt) → (q : ℕ) → q < dirs * stars → clash_at words stars q ≡ false
      by true b e q l = contradiction (cc)
      by false b e q l = (first-is (clash_at words stars) (dirs * stars)).none q (omega (arith, ltb-false p (dirs * stars) b))

  row-into : ((q : ℕ) → q < dirs * stars → clash_at words stars q ≡ false) → (i : ℕ) → i < dirs → Into stars stars (word words (i * stars))
  row-into h i li =
      record {
        below = λ k lk. free-below words stars (i * stars) k (free k lk);
        once = λ k l lk ll e. ⊎_elim
            (λ (w : k ≤ l). ⊎_elim (λ (q : k ≡ l). q) (λ (q : k < l). absurd (free-once words stars (i * stars) l (free l ll) k q e)) (eq-or-lt_of_le w))
            (λ (w : l < k). absurd (free-once words stars (i * stars) k (free k lk) l w (sym e)))
            (le-or-lt k l);
      }
    where
      free : (k : ℕ) → k < stars → clash words stars (i * stars) k ≡ false
      free k l = sym (at_row words stars i k l) ∙ h (i * stars + k) (omega (arith, row_fits i dirs stars li))

  -- the test accepts a ranking exactly if it is directions x stars long and each row names each star exactly once
  pub good-ranked : lent_of words dirs stars ≡ Ok tt → (length words ≡ dirs * stars) × Ranked (ranking_of dirs stars words)
  good-ranked e =
      let into = row-into (good-free e) in (
        good_length e,
        record {
          below = λ i k li lk. (into i li).below k lk;
          names = λ i s li ls. onto stars (word words (i * stars)) (into i li) s ls;
          once = λ i k l li. (into i li).once k l;
        },
      )

  pub ranked-good : length words ≡ dirs * stars → Ranked (ranking_of dirs stars words) → lent_of words dirs stars ≡ Ok tt
  ranked-good e R = sym (all-good e (λ q l.
      let p : 0 < stars = positive q l in
      let i : q / stars < dirs = (div-lt_iff_lt-mul p).1 l in
      let k : q % stars < stars = mod-lt q p in
      clash-free words stars (q / stars * stars) (q % stars) (R.below (q / stars) (q % stars) i k)
      (λ j m w. omega (arith, R.once (q / stars) j (q % stars) i (omega arith) k w))))
    where
      positive : (q : ℕ) → q < dirs * stars → 0 < stars
      positive q l = ⊎_elim (λ (z : stars ≤ 0). absurd (nothing stars (omega arith) l)) (λ (z : 0 < stars). z) (le-or-lt stars 0)
        where
          nothing : (s : ℕ) → s ≡ 0 → q < dirs * s → ⊥
          nothing s z h = omega (arith, ap (λ (t : ℕ). dirs * t) z)
