-- `first_fit` gives the first assignment that passes, and `nothing` exactly where none does; and whatever is the first agrees with it.
-- Assumes nothing.
use mathlib.Core.Path.{◌≡◌, refl, sym, ◌∙◌, subst}
use mathlib.Core.Bool.{Bool, true, false, ◌&&◌}
use mathlib.Core.List.{List, [], ◌∷◌, ◌++◌}
use Prim.Native.Nat.{ℕ, zero, suc, ◌+◌, ◌≤◌, ◌<◌}
use native.Mathlib.Omega.{arith}
use native.Mathlib.Numerals.{add-one}
use lib.ListN.{length, length-append, get_or-append, get_or-eq_default}
use lib.Seq.{get_or_at}
use lib.Dec.{leb}
use borrow.Author.Tests.{leb-true, leb-false}
use Rattle.search_theory.specs.Order.{Ranked, Same, FirstOf, at}
use Rattle.search_theory.specs.Problem.{Problem, order, Local, Sound, Passing, First, assigned}
use Rattle.search_theory.specs.Run.{Answer, nothing, fit, is_fit, words, or_else, when, row, run, first_fit}
use Rattle.search_theory.proofs.Search as laws
use Rattle.search_theory.proofs.Unique.{both, only}

module _ (p : Problem) where
  First' : ℕ → List ℕ → Answer → Type 0
  First' i c a = First p i c (is_fit a) (words a)

  module _ (i : ℕ) (c : List ℕ) (len : length c ≡ i) (s : ℕ) where
    same-app : Same i c (c ++ (s ∷ []))
    same-app j l = get_or-append c (s ∷ []) 0 j (omega arith)

    beyond-app : (k : ℕ) → i < k → at (c ++ (s ∷ [])) k ≡ at c k
    beyond-app k l = get_or-eq_default (c ++ (s ∷ [])) 0 (simp (length-append c (s ∷ [])) (omega arith)) ∙ sym (get_or-eq_default c 0 (omega arith))

    at-app : at (c ++ (s ∷ [])) i ≡ s
    at-app = get_or_at c s [] 0 i len

    length_app : length (c ++ (s ∷ [])) ≡ i + 1
    length_app = simp (length-append c (s ∷ [])) (omega arith)

    module _ (R : Ranked (order p)) (L : Local p) (li : i < p.dirs) where
      when-first : (a : Answer) (b : Bool) → s < p.stars → p.ok i c s ≡ b → (b ≡ true → First' (i + 1) (c ++ (s ∷ [])) a)
          → First' (i + 1) (c ++ (s ∷ [])) (when b a)
      unfolding First'
      when-first a true ls t f = f refl
      when-first a false ls t f = laws.rejected p i c (c ++ (s ∷ [])) s same-app at-app beyond-app L li ls t []

      or-first : (a b : Answer) (k : ℕ) → k < p.stars → p.row i k ≡ s → laws.Passed p i c k → First' (i + 1) (c ++ (s ∷ [])) a
          → (laws.Passed p i c (k + 1) → First' i c b) → First' i c (or_else a b)
      unfolding First'
      or-first nothing b k lk e h F f = f (laws.passed-more p i c (c ++ (s ∷ [])) s same-app at-app beyond-app k e h false [] F refl)
      or-first (fit r) b k lk e h F f = laws.found_here p i c (c ++ (s ∷ [])) s same-app at-app beyond-app R li k lk e h true r F refl

  module _ (R : Ranked (order p)) (L : Local p) where
    row_first : (go : List ℕ → Answer) (i : ℕ) (c : List ℕ) (n k : ℕ) → length c ≡ i → i < p.dirs → Sound p i c → k + n ≡ p.stars → laws.Passed p i c k
        → ((d : List ℕ) → length d ≡ i + 1 → Sound p (i + 1) d → First' (i + 1) d (go d)) → First' i c (row p go i c k n)
    unfolding row First'
    row_first go i c zero k len li h e P G =
        let s = p.stars in
        let d = c ++ (s ∷ []) in
        laws.none_here p i c d s (same-app i c len s) (at-app i c len s) (beyond-app i c len s) R li refl (λ ys f sm l lt. P ys f sm l (omega arith)) _ _
        (G d (length_app i c len s) (laws.grows p i c d s (same-app i c len s) (at-app i c len s) (beyond-app i c len s) L h (omega arith)
        (λ l. absurd (omega arith))))
    row_first go i c (suc n) k len li h e P G =
        let s = p.row i k in
        let d = c ++ (s ∷ []) in
        let ls : s < p.stars = R.below i k li (omega arith) in
        or-first i c len s R L li (when (p.ok i c s) (go d)) (row p go i c (suc k) n) k (omega arith) refl P
        (when-first i c len s R L li (go d) (p.ok i c s) ls refl
        (λ q. G d (length_app i c len s) (laws.grows p i c d s (same-app i c len s) (at-app i c len s) (beyond-app i c len s) L h (omega arith) (λ _. q))))
        (λ P'. row_first go i c n (suc k) len li h (omega arith) (λ ys f sm l lt. P' ys f sm l (omega arith)) G)

    end-first : (i : ℕ) (c : List ℕ) (b t : Bool) → leb p.needed (assigned p.stars c i) ≡ b → p.last c ≡ t → i ≡ p.dirs → length c ≡ i → Sound p i c
        → First' i c (when (b && t) (fit c))
    unfolding First'
    end-first i c true true e w q len h = laws.complete p i c q (omega arith) h (leb-true p.needed (assigned p.stars c i) e) w
    end-first i c true false e w q len h = laws.refused p L i c q w []
    end-first i c false t e w q len h = laws.fails p i c [] (laws.too_few p i c (omega arith)
        (omega (arith, leb-false p.needed (assigned p.stars c i) e)))

    run-first : (d i : ℕ) (c : List ℕ) → i + d ≡ p.dirs → length c ≡ i → Sound p i c → First' i c (run p d i c)
    unfolding run
    run-first zero i c e len h = end-first i c _ _ refl refl (omega arith) len h
    run-first (suc d) i c e len h =
        row_first (run p d (suc i)) i c p.stars 0 len (omega arith) h (omega arith) (laws.passed_none p i c)
        (λ w lw hw. rw (add-one i) (run-first d (suc i) w (omega arith) (omega arith) (rw (add-one i) at hw)))

    from_nothing : First' 0 [] (first_fit p)
    unfolding first_fit
    from_nothing = run-first p.dirs 0 [] (omega arith) refl (laws.start p []).sound

    pub first_fit-first : FirstOf (order p) (Passing p) (is_fit (first_fit p)) (words (first_fit p))
    unfolding First'
    first_fit-first = laws.whole p [] (is_fit (first_fit p)) (words (first_fit p)) from_nothing

    -- its words are those of the directions, and no more
    pub first_fit-rest : is_fit (first_fit p) ≡ true → (k : ℕ) → p.dirs ≤ k → at (words (first_fit p)) k ≡ 0
    unfolding First'
    first_fit-rest = from_nothing.rest

    -- whatever is the first has its verdict and its words
    pub the-verdict : (found : Bool) (r : List ℕ) → FirstOf (order p) (Passing p) found r → found ≡ is_fit (first_fit p)
    the-verdict found r F = both (order p) R (Passing p) found (is_fit (first_fit p)) r (words (first_fit p)) F first_fit-first

    pub the-words : (r : List ℕ) → FirstOf (order p) (Passing p) true r → Same p.dirs r (words (first_fit p))
    the-words r F =
        only (order p) R (Passing p) r (words (first_fit p)) F
        (subst (λ (b : Bool). FirstOf (order p) (Passing p) b (words (first_fit p))) (sym (the-verdict true r F)) first_fit-first)
