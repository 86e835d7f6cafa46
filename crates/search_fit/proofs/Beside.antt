-- The test beside the newest star and the words before it is the test beside all words: those behind it are no stars. Assumes nothing.
use Rattle.std.proofs.Common.{◌≡◌, ℕ, zero, suc, ◌<◌, ◌≤◌, Bool, true, not, ◌&&◌, eqb, ltb, List, get_or, ℤ, pos, ◌-ℤ◌, sym, ap, ◌∙◌, subst, ⊎_elim, eq-or-lt_of_le, arith, le-ltb, lt-ltb, ne_eqb}
use mathlib.Core.Bool.{and-true}
use Rattle.numbers.specs.Within.{Within, wider, within-sub}
use Rattle.vectors.specs.Vectors.{Within3, dot_of}
use Rattle.vectors.specs.Agree.{agreeing, near-agreeing}
use Rattle.vectors.specs.Triples.{triple_at, pair_dot}
use Rattle.vectors.specs.Laws.{wider3, triple-within, dot-within}
use Rattle.search_theory.specs.Order.{at}
use Rattle.lists.specs.Tests.{all, given}
use Rattle.search_theory.specs.Fit.{pairs}
use Rattle.search_fit.specs.declared.Newest.{Newest}
use Rattle.search_fit.specs.Fit.{Tested, besides, besides_newest, NewestOf}

-- what holds anyway need not be asked
asked-before : (n m : ℕ) (f : ℕ → Bool) → n ≤ m → ((q : ℕ) → n ≤ q → q < m → f q ≡ true) → all n f ≡ all m f
unfolding all
asked-before n zero f l h = let e : n ≡ 0 = omega arith in rw e
asked-before n (suc m) f l h =
    ⊎_elim
    (λ (e : n ≡ suc m). ap (λ (k : ℕ). all k f) e)
    (λ (w : n < suc m). asked-before n m f (omega arith) (λ q a b. h q a (omega arith)) ∙ sym (and-true (all m f))
    ∙ ap (λ (b : Bool). all m f && b) (sym (h m (omega arith) (omega arith))))
    (eq-or-lt_of_le l)

module _ (stars : List ℤ) (count : ℕ) (chosen : List ℕ) (dots : List ℤ) where
  -- what is asked of the word at place q
  abbrev asked : ℕ → ℕ → ℕ → Bool
  asked tolerance star q = not (eqb (at chosen q) star) && agreeing (get_or dots q (pos 0)) (pair_dot stars (at chosen q) star) tolerance

  none-behind : (tolerance star n i : ℕ) → n ≤ i → ((q : ℕ) → q < i → n ≤ q → count ≤ at chosen q)
      → besides stars count tolerance dots n chosen star ≡ besides stars count tolerance dots i chosen star
  unfolding besides pairs
  none-behind tolerance star n i l none =
      asked-before n i (λ q. given (ltb (at chosen q) count) (asked tolerance star q)) l (λ q a b. rw (le-ltb (at chosen q) count (none q b a)))

  one_more : (tolerance star j : ℕ) → at chosen j < count → (besides stars count tolerance dots j chosen star && asked tolerance star j)
      ≡ besides stars count tolerance dots (suc j) chosen star
  unfolding besides pairs all
  one_more tolerance star j l = ap (λ (b : Bool). besides stars count tolerance dots j chosen star && given b (asked tolerance star j))
      (sym (lt-ltb (at chosen j) count l))

  -- what the test beside the words before the newest star is handed
  fewer : (i j : ℕ) → j ≤ i → Tested stars count chosen dots i → Tested stars count chosen dots j
  fewer i j l t = record {
    words = omega (arith, t.words);
    products = omega (arith, t.products);
    long = t.long;
    near-stars = t.near-stars;
    near-dots =
        t.near-dots;
  }

  -- the newest star stands at j
  pub newest-at : (i j : ℕ) (n : Newest) → Tested stars count chosen dots i → j < i → at chosen j < count → ((q : ℕ) → q < i → suc j ≤ q → count ≤ at chosen q)
      → n.before ≡ j → n.star ≡ at chosen j → n.place ≡ triple_at stars (at chosen j) → n.dot ≡ get_or dots j (pos 0) → NewestOf stars count chosen dots i n
  unfolding besides_newest pair_dot
  newest-at i j n t l lj none eb es ep ed =
      record {
        ready = record {
          tested = fewer i n.before (omega arith) t;
          near-place = subst (Within3 1000000000) (sym ep) (triple-within t.near-stars (at chosen j));
          near-dot = subst (Within 3000000000000000000) (sym ed) (t.near-dots.at j);
        };
        same = λ tolerance star ls.
            (λ k. besides stars count tolerance dots (eb k) chosen star &&
            (not (eqb (es k) star) && agreeing (ed k) (dot_of (ep k) (triple_at stars star)) tolerance))
            ∙ one_more tolerance star j lj ∙ none-behind tolerance star (suc j) i l none;
      }

  -- there is none
  pub newest-none : (i : ℕ) (n : Newest) → Tested stars count chosen dots i → ((q : ℕ) → q < i → count ≤ at chosen q)
      → n.before ≡ 0 → n.star ≡ count → Within3 0 n.place → Within 0 n.dot → NewestOf stars count chosen dots i n
  unfolding besides_newest
  newest-none i n t none eb es wp wd =
      record {
        ready = record { tested = fewer i n.before (omega arith) t; near-place = wider3 wp (omega arith); near-dot = wider wd (omega arith) };
        same = λ tolerance star ls.
            let d : (n.star ≡ star → ⊥) = λ e. omega arith in
            let w : Within 0 (n.dot -ℤ dot_of n.place (triple_at stars star)) = within-sub wd (dot-within wp (triple-within t.near-stars star)) in
            (λ k. besides stars count tolerance dots (eb k) chosen star &&
            (not (ne_eqb n.star star d k) && near-agreeing n.dot (dot_of n.place (triple_at stars star)) tolerance (omega (arith, w.within)) k))
            ∙ and-true (besides stars count tolerance dots 0 chosen star) ∙ none-behind tolerance star 0 i (omega arith) (λ q l z. none q l);
      }
