-- A ranking puts assignments in order: of two different ones one comes before the other, and not both; so there is one first at most.
-- Assumes nothing.
use mathlib.Core.Path.{◌≡◌, refl, sym, ◌∙◌, ap, subst}
use mathlib.Core.Bool.{Bool, true, false}
use mathlib.Core.List.{List}
use mathlib.Core.Logic.{◌⊎◌, inl, inr, ⊎_elim}
use Prim.Native.Nat.{ℕ, zero, suc, ◌≤◌, ◌<◌}
use native.Mathlib.Omega.{arith}
use native.Mathlib.Nat.{eq-or-lt_of_le}
use Rattle.search_theory.specs.Order.{Ranking, Ranked, Same, Earlier, Before, FirstOf, at}
use Rattle.search_theory.proofs.Tests.{le-or-lt}

module _ (g : Ranking) (R : Ranked g) where
  one_way : (i a b : ℕ) → i < g.dirs → Earlier g i a b → Earlier g i b a → ⊥
  unfolding Earlier
  one_way i a b li (k, lk, ek, u) (h, lh, eh, v) =
      let bk : g.row i k < g.stars = R.below i k li lk in
      let bh : g.row i h < g.stars = R.below i h li lh in
      ⊎_elim (λ e. omega arith)
      (λ w. ⊎_elim (λ e. omega arith)
      (λ z.
      let q₁ : w.0 ≡ h = R.once i w.0 h li w.2 lh (w.3 ∙ sym eh) in
      let q₂ : z.0 ≡ k = R.once i z.0 k li z.2 lk (z.3 ∙ sym ek) in
      omega (arith, w.1, z.1)) v) u

  pub asym : (xs ys : List ℕ) → Before g xs ys → Before g ys xs → ⊥
  asym xs ys A B =
      ⊎_elim (λ (w : A.dir ≤ B.dir). ⊎_elim
      (λ (q : A.dir ≡ B.dir). one_way B.dir (at xs B.dir) (at ys B.dir) B.within
      (subst (λ (i : ℕ). Earlier g i (at xs i) (at ys i)) q A.earlier) B.earlier)
      (λ (q : A.dir < B.dir).
      let e : at xs A.dir ≡ at ys A.dir = B.same A.dir q in
      let E : Earlier g A.dir (at ys A.dir) (at ys A.dir) = subst (λ (z : ℕ). Earlier g A.dir z (at ys A.dir)) e A.earlier in
      one_way A.dir _ _ A.within E E)
      (eq-or-lt_of_le w))
      (λ (q : B.dir < A.dir).
      let e : at ys B.dir ≡ at xs B.dir = A.same B.dir q in
      let E : Earlier g B.dir (at xs B.dir) (at xs B.dir) = subst (λ (z : ℕ). Earlier g B.dir z (at xs B.dir)) e B.earlier in
      one_way B.dir _ _ B.within E E)
      (le-or-lt A.dir B.dir)

  -- of two words one is earlier, or they are the same
  compared : (i a b : ℕ) → i < g.dirs → a ≤ g.stars → b ≤ g.stars → (a ≡ b) ⊎ (Earlier g i a b ⊎ Earlier g i b a)
  unfolding Earlier
  compared i a b li la lb =
      ⊎_elim
      (λ (ea : a ≡ g.stars). ⊎_elim
      (λ (eb : b ≡ g.stars). inl (ea ∙ sym eb))
      (λ (sb : b < g.stars). let w = R.names i b li sb in inr (inr (w.0, w.1, w.2, inl ea)))
      (eq-or-lt_of_le lb))
      (λ (sa : a < g.stars). let v = R.names i a li sa in ⊎_elim
      (λ (eb : b ≡ g.stars). inr (inl (v.0, v.1, v.2, inl eb)))
      (λ (sb : b < g.stars). let w = R.names i b li sb in placed v.0 w.0 v.1 w.1 v.2 w.2)
      (eq-or-lt_of_le lb))
      (eq-or-lt_of_le la)
    where
      placed : (k l : ℕ) → k < g.stars → l < g.stars → g.row i k ≡ a → g.row i l ≡ b → (a ≡ b) ⊎ (Earlier g i a b ⊎ Earlier g i b a)
      placed k l lk ll ek el =
          ⊎_elim
          (λ (h : k ≤ l). ⊎_elim
          (λ (q : k ≡ l). inl (sym ek ∙ ap (g.row i) q ∙ el))
          (λ (q : k < l). inr (inl (k, lk, ek, inr (l, q, ll, el))))
          (eq-or-lt_of_le h))
          (λ (h : l < k). inr (inr (l, ll, el, inr (k, h, lk, ek))))
          (le-or-lt k l)

  -- of two assignments one comes before the other, or they are the same
  pub total : (xs ys : List ℕ) → ((i : ℕ) → i < g.dirs → at xs i ≤ g.stars) → ((i : ℕ) → i < g.dirs → at ys i ≤ g.stars)
      → Same g.dirs xs ys ⊎ (Before g xs ys ⊎ Before g ys xs)
  total xs ys hx hy = upto g.dirs (omega arith)
    where
      upto : (n : ℕ) → n ≤ g.dirs → Same n xs ys ⊎ (Before g xs ys ⊎ Before g ys xs)
      upto zero le = inl (λ j l. absurd (omega arith))
      upto (suc n) le =
          ⊎_elim
          (λ (s : Same n xs ys). ⊎_elim
          (λ (e : at xs n ≡ at ys n). inl (λ j l. ⊎_elim (λ (q : j ≡ n). rw q (sym e)) (λ (q : j < n). s j q) (eq-or-lt_of_le (omega arith))))
          (λ w. inr (⊎_elim
          (λ (a : Earlier g n (at xs n) (at ys n)). inl (record { dir = n; within = omega arith; same = s; earlier = a }))
          (λ (b : Earlier g n (at ys n) (at xs n)). inr (record { dir = n; within = omega arith; same = λ j l. sym (s j l); earlier = b }))
          w))
          (compared n (at xs n) (at ys n) (omega arith) (hx n (omega arith)) (hy n (omega arith))))
          inr
          (upto n (omega arith))

  module _ (F : List ℕ → Type 0) where
    pub only : (r q : List ℕ) → FirstOf g F true r → FirstOf g F true q → Same g.dirs r q
    only r q A B =
        ⊎_elim (λ s. s) (λ a. ⊎_elim (λ s j l. sym (s j l)) (λ b. absurd (asym r q a b)) (B.first refl r (A.fits refl)))
        (A.first refl q (B.fits refl))

    pub both : (f h : Bool) (r q : List ℕ) → FirstOf g F f r → FirstOf g F h q → f ≡ h
    both true true r q A B = refl
    both false false r q A B = refl
    both true false r q A B = absurd (B.none refl r (A.fits refl))
    both false true r q A B = absurd (A.none refl q (B.fits refl))
