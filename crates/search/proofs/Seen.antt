-- The table that marks the words seen in a row: it marks those, and no others. Assumes nothing.
use mathlib.Core.Bool.{Bool, true, false}
use mathlib.Core.Path.{◌≡◌, refl, sym, ◌∙◌, ap}
use mathlib.Core.List.{List}
use mathlib.Core.Logic.{◌⊎◌, inl, inr, ⊎_elim}
use Prim.Native.Nat.{ℕ, zero, suc, ◌+◌, ◌≤◌, ◌<◌}
use native.Mathlib.Omega.{arith}
use native.Mathlib.Nat.{eq-or-lt_of_le}
use lib.Seq.{get_or-set_same, get_or-set_other}
use lib.ListN.{get_or, set, length, length-set, replicate, length-replicate}
use Rattle.search.specs.Once.{word}
use Rattle.search_theory.proofs.Tests.{never, eq-or}

pub record Seen (words : List ℕ) (base k : ℕ) (seen : List Bool) : Type 0 where
  pub size : 512 ≤ length seen
  pub marks : (l : ℕ) → l < k → get_or seen (word words base l) false ≡ true
  pub only : (w : ℕ) → (get_or seen w false ≡ false) ⊎ ((l : ℕ) × (l < k) × (word words base l ≡ w))

module _ (words : List ℕ) (base k : ℕ) (seen : List Bool) (h : Seen words base k seen) where
  pub hit : get_or seen (word words base k) false ≡ true → (l : ℕ) × (l < k) × (word words base l ≡ word words base k)
  hit d = ⊎_elim (λ e. never (sym e ∙ d)) (λ w. w) (h.only (word words base k))

  pub miss : get_or seen (word words base k) false ≡ false → (l : ℕ) → l < k → word words base l ≡ word words base k → ⊥
  miss e l lk q = never (sym e ∙ ap (λ (z : ℕ). get_or seen z false) (sym q) ∙ h.marks l lk)

  pub more : (w : ℕ) → w ≡ word words base k → w < 512 → Seen words base (k + 1) (set seen w true)
  more w q lw =
      let there : get_or (set seen w true) w false ≡ true = get_or-set_same seen w true false (omega (arith, h.size)) in
      record {
        size = simp length-set h.size;
        marks = λ l ll. ⊎_elim
            (λ (e : word words base l ≡ w). rw e there)
            (λ (d : word words base l ≡ w → ⊥). get_or-set_other seen w (word words base l) true false d ∙ h.marks l (less l ll d))
            (eq-or (word words base l) w);
        only = λ v. ⊎_elim (λ (e : v ≡ w). inr (k, omega arith, sym q ∙ sym e))
            (λ (d : v ≡ w → ⊥). ⊎_elim
            (λ e. inl (get_or-set_other seen w v true false d ∙ e))
            (λ z. inr (z.0, omega (arith, z.1), z.2))
            (h.only v))
            (eq-or v w);
      }
    where
      less : (l : ℕ) → l < k + 1 → (word words base l ≡ w → ⊥) → l < k
      less l ll d = ⊎_elim (λ (e : l ≡ k). absurd (d (ap (word words base) e ∙ sym q))) (λ (e : l < k). e) (eq-or-lt_of_le (omega arith))

falses-at : (n k : ℕ) → get_or (replicate n false) k false ≡ false
falses-at zero k = refl
falses-at (suc n) zero = refl
falses-at (suc n) (suc k) = falses-at n k

pub blank : (words : List ℕ) (base n : ℕ) → 512 ≤ n → Seen words base 0 (replicate n false)
blank words base n h = record {
  size = rw (length-replicate {A = Bool} n false) h;
  marks = λ l ll. absurd (omega arith);
  only = λ w. inl (falses-at n w);
}
