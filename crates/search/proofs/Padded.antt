-- The words of a search's answer, in an array with zeros behind them: whatever is the first has those of the computed one, and the computed one's
-- are the first. Assumes nothing.
use mathlib.Core.Path.{◌≡◌, refl, sym, ◌∙◌, ap, subst}
use mathlib.Core.Bool.{Bool, true}
use mathlib.Core.List.{List, [], ◌∷◌}
use mathlib.Core.Logic.{inl, inr, ⊎_elim}
use Prim.Native.Nat.{ℕ, zero, suc, ◌≤◌, ◌<◌}
use native.Mathlib.Omega.{arith}
use lib.ListN.{length, get_or, get_or-eq_default}
use lib.Seq.{ext_get_or}
use Rattle.search_theory.specs.Order.{Ranked, FirstOf, Same, Before, Earlier, at}
use Rattle.search_theory.specs.Problem.{Problem, order, Local, Passing}
use Rattle.search_theory.specs.Run.{is_fit, words, first_fit}
use Rattle.search_theory.proofs.Search.{assigned-same}
use Rattle.search_theory.proofs.Tests.{le-or-lt}
use Rattle.search_theory.proofs.Run as run
use Rattle.search.specs.Identified.{pad_to}

pub pad-length : (n : ℕ) (xs : List ℕ) → length (pad_to n xs) ≡ n
unfolding pad_to
pad-length zero xs = refl
pad-length (suc n) [] = ap suc (pad-length n [])
pad-length (suc n) (x ∷ xs) = ap suc (pad-length n xs)

pad-at : (n : ℕ) (xs : List ℕ) (k : ℕ) → k < n → get_or (pad_to n xs) k 0 ≡ get_or xs k 0
unfolding pad_to
pad-at zero xs k l = absurd (omega arith)
pad-at (suc n) [] zero l = refl
pad-at (suc n) [] (suc k) l = pad-at n [] k (omega arith)
pad-at (suc n) (x ∷ xs) zero l = refl
pad-at (suc n) (x ∷ xs) (suc k) l = pad-at n xs k (omega arith)

module _ (p : Problem) (R : Ranked (order p)) (L : Local p) (found : Bool) (r : List ℕ) (F : FirstOf (order p) (Passing p) found r) (rest : found ≡ true
    → (k : ℕ) → p.dirs ≤ k → at r k ≡ 0) (size : length r ≡ 8) (e : is_fit (first_fit p) ≡ true) where
  is_found : found ≡ true
  is_found = run.the-verdict p R L found r F ∙ e

  same : Same p.dirs r (words (first_fit p))
  same = run.the-words p R L r (subst (λ (b : Bool). FirstOf (order p) (Passing p) b r) is_found F)

  pub padded : r ≡ pad_to 8 (words (first_fit p))
  padded =
      ext_get_or 0 r (pad_to 8 (words (first_fit p))) (size ∙ sym (pad-length 8 (words (first_fit p))))
      (λ k l. ⊎_elim
      (λ (h : p.dirs ≤ k). rest is_found k h ∙ sym (run.first_fit-rest p R L e k h) ∙ sym (pad-at 8 (words (first_fit p)) k (omega arith)))
      (λ (h : k < p.dirs). sym (same k h) ∙ sym (pad-at 8 (words (first_fit p)) k (omega arith)))
      (le-or-lt p.dirs k))

-- ---- the other way: what stands behind the directions counts for nothing

module _ (p : Problem) (L : Local p) (xs ys : List ℕ) (same : Same p.dirs xs ys) (long : p.dirs ≤ length ys) where
  passing-same : Passing p xs → Passing p ys
  passing-same h =
      record {
        long = long;
        sound = record {
          words = λ i l. rw (same i l) (h.sound.words i l);
          stands = λ i l b.
              let e : at ys i ≡ at xs i = same i l in
              rw e (sym (L.ok-by i xs ys (at xs i) (λ j lj. same j (omega arith))) ∙ h.sound.stands i l (omega arith));
        };
        enough = omega (arith, h.enough, assigned-same p.stars xs ys p.dirs same);
        taken = sym (L.last-by xs ys same) ∙ h.taken;
      }

  before_same : (zs : List ℕ) → Before (order p) xs zs → Before (order p) ys zs
  before_same zs b =
      record {
        dir = b.dir;
        within = b.within;
        same = λ j l. b.same j l ∙ sym (same j (omega (arith, b.within)));
        earlier = subst (λ (a : ℕ). Earlier (order p) b.dir a (at zs b.dir)) (sym (same b.dir b.within)) b.earlier;
      }

  first-same : (found : Bool) → FirstOf (order p) (Passing p) found xs → FirstOf (order p) (Passing p) found ys
  first-same found F =
      record {
        fits = λ e. passing-same (F.fits e);
        first = λ e zs f. ⊎_elim (λ (s : Same p.dirs xs zs). inl (λ j l. s j l ∙ sym (same j l))) (λ (b : Before (order p) xs zs). inr (before_same zs b))
            (F.first e zs f);
        none = F.none;
      }

module _ (p : Problem) (R : Ranked (order p)) (L : Local p) (few : p.dirs ≤ 8) where
  abbrev found : List ℕ
  found = words (first_fit p)

  pub padded-first : FirstOf (order p) (Passing p) (is_fit (first_fit p)) (pad_to 8 found)
  padded-first =
      first-same p L found (pad_to 8 found) (λ j l. pad-at 8 found j (omega arith)) (omega (arith, pad-length 8 found)) (is_fit (first_fit p))
      (run.first_fit-first p R L)

  pub padded-rest : is_fit (first_fit p) ≡ true → (k : ℕ) → p.dirs ≤ k → at (pad_to 8 found) k ≡ 0
  padded-rest e k l =
      ⊎_elim
      (λ (h : 8 ≤ k). get_or-eq_default (pad_to 8 found) 0 (omega (arith, pad-length 8 found)))
      (λ (h : k < 8). pad-at 8 found k h ∙ run.first_fit-rest p R L e k l)
      (le-or-lt 8 k)
