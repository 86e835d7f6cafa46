-- The triple products of a direction with each two before it, by their places. Assumes nothing.
use Rattle.std.proofs.Common.{◌≡◌, ℕ, zero, suc, ◌+◌, ◌*◌, ◌/◌, ◌%◌, ◌<◌, ◌≤◌, List, length, get_or, set, replicate, ℤ, pos, sym, refl, subst, ⊎_elim, eq-or-lt_of_le, arith, get_or-set_other, get_or-set_same}
use native.Mathlib.Decide.{dec_lt}
use Rattle.vectors.specs.Triples.{triple_at}
use Rattle.vectors.specs.handedness.Handedness.{triple_of}
use Rattle.search_fit.specs.Fit.{Turned}

-- z is the triple product of the directions j, k and i where these are in list order, and 0 where they are not
abbrev pub Turn : List ℤ → ℕ → ℕ → ℕ → ℤ → Type 0
Turn directions i j k z =
    (j < k → k < i → z ≡ triple_of (triple_at directions j) (triple_at directions k) (triple_at directions i))
    × ((j < k → k < i → ⊥) → z ≡ pos 0)

-- the first q of them, place by place, and zeros from there on
abbrev pub TurnsTo : List ℤ → ℕ → List ℤ → ℕ → Type 0
TurnsTo directions i turns q = (p : ℕ) → p < q → Turn directions i (p / 8) (p % 8) (get_or turns p (pos 0))

abbrev pub ZerosFrom : List ℤ → ℕ → Type 0
ZerosFrom turns q = (p : ℕ) → q ≤ p → get_or turns p (pos 0) ≡ pos 0

pub zeros-at : (n k : ℕ) → get_or (replicate n (pos 0)) k (pos 0) ≡ pos 0
zeros-at zero k = refl
zeros-at (suc n) zero = refl
zeros-at (suc n) (suc k) = zeros-at n k

module _ (directions : List ℤ) (i : ℕ) where
  pub one-turn-more : (turns : List ℤ) (q : ℕ) (z : ℤ) → q < length turns → TurnsTo directions i turns q → Turn directions i (q / 8) (q % 8) z
      → TurnsTo directions i (set turns q z) (q + 1)
  one-turn-more turns q z l h new p lp =
      ⊎_elim
      (λ (e : p ≡ q). rw e (subst (Turn directions i (q / 8) (q % 8)) (sym (get_or-set_same turns q z (pos 0) l)) new))
      (λ (e : p < q). subst (Turn directions i (p / 8) (p % 8)) (sym (get_or-set_other turns q p z (pos 0) (λ f. omega arith))) (h p e))
      (eq-or-lt_of_le (omega arith))

  pub all-turns : (turns : List ℤ) → i < 8 → length turns ≡ 64 → TurnsTo directions i turns (8 * i) → ZerosFrom turns (8 * i) → Turned directions i turns
  all-turns turns l size h zeros =
      record {
        size = size;
        at = λ j k jk ki.
            let d : (j * 8 + k) / 8 ≡ j = omega arith in
            let m : (j * 8 + k) % 8 ≡ k = omega arith in
            let t : Turn directions i ((j * 8 + k) / 8) ((j * 8 + k) % 8) (get_or turns (j * 8 + k) (pos 0)) = h (j * 8 + k) (omega arith) in
            (subst (λ (n : ℕ). Turn directions i j n (get_or turns (j * 8 + k) (pos 0))) m
            (subst (λ (n : ℕ). Turn directions i n ((j * 8 + k) % 8) (get_or turns (j * 8 + k) (pos 0))) d t)).0 jk ki;
        rest = λ q gone. other q gone (dec_lt q (8 * i));
      }
    where
      other : (q : ℕ) → (q / 8 < q % 8 → q % 8 < i → ⊥) → Dec (q < 8 * i) → get_or turns q (pos 0) ≡ pos 0
      other q gone (yes k) = (h q k).1 gone
      other q gone (no k) = zeros q (omega arith)
