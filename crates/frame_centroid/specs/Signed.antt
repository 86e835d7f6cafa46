-- The signed sums by the unsigned ones, and the position: the number that the code computes is the signed one, so that one is nowhere negative.
-- Assumes nothing.
use Rattle.std.specs.Prelude.{Bool, true, false, cond, ◌≡◌, refl, List, [], ◌∷◌, ℕ, zero, suc, ◌+◌, ◌-◌, ◌*◌, ◌/◌, ◌≤◌, ◌<◌, leb, ℤ, nat_abs, neg_ℤ, ◌+ℤ◌, ◌-ℤ◌, ◌*ℤ◌}
use Rattle.std.proofs.Common.{sym, ◌∙◌, mul-zero, arith, leb-true, leb-false}
use Rattle.std.proofs.Math.Path.{ap, fun_ext}
use Rattle.std.proofs.Math.Nat.{zero-div}
use Rattle.std.proofs.Math.IntN.{pos, +ℤ_invr, +ℤ_idr, +ℤ_idl}
use Rattle.std.specs.Int.Signed.{quot_z}
use Rattle.numbers.specs.Solver.{var, ◌⊕◌, ◌⊖◌}
use Rattle.numbers.proofs.Solver.{ring}
use Rattle.frame_centroid.specs.Sums.{sum_below, sumℤ-below, quotient-small}
use Rattle.frame_centroid.specs.Centroid.{weight, brightness, offset, shift_x, shift_y, along, centroid_of}
use Rattle.frame_centroid.specs.Moments.{moment_x, moment_y, position, from_moments, MomentsOf}
use Rattle.frame_centroid.specs.declared.Moments.{Moments}

-- the difference of two numbers
dif : ℕ → ℕ → ℤ
dif a b = pos a -ℤ pos b

dif-add : (a b c d : ℕ) → dif a b +ℤ dif c d ≡ dif (a + c) (b + d)
unfolding dif
dif-add a b c d = ring (pos a ∷ (pos b ∷ (pos c ∷ (pos d ∷ [])))) (var 0 ⊖ var 1 ⊕ (var 2 ⊖ var 3)) (var 0 ⊕ var 2 ⊖ (var 1 ⊕ var 3)) tt

dif-same : (a : ℕ) → dif a a ≡ pos 0
unfolding dif
dif-same a = +ℤ_invr (pos a)

dif-wide : (a b d : ℕ) → dif a b ≡ dif (a + d) (b + d)
dif-wide a b d = sym (+ℤ_idr (dif a b)) ∙ ap (λ (z : ℤ). dif a b +ℤ z) (sym (dif-same d)) ∙ dif-add a b d d

dif-eq : (a b c d : ℕ) → a + d ≡ c + b → dif a b ≡ dif c d
dif-eq a b c d e =
    let p : b + d ≡ d + b = omega arith in
    dif-wide a b d ∙ ap (λ (x : ℕ). dif x (b + d)) e ∙ ap (λ (x : ℕ). dif (c + b) x) p ∙ sym (dif-wide c d b)

dif-zero : (a : ℕ) → pos a ≡ dif a 0
unfolding dif
dif-zero a = sym (+ℤ_idr (pos a))

neg-dif : (a : ℕ) → neg_ℤ (pos a) ≡ dif 0 a
unfolding dif
neg-dif a = sym (+ℤ_idl (neg_ℤ (pos a)))

-- a weight times an offset
times : (v : ℕ) (j : ℕ) → j < 5 → pos v *ℤ offset j ≡ dif (v * j) (2 * v)
times v zero h = neg-dif (v * 2) ∙ dif-eq 0 (v * 2) (v * 0) (2 * v) (omega arith)
times v (suc zero) h = neg-dif (v * 1) ∙ dif-eq 0 (v * 1) (v * 1) (2 * v) (omega arith)
times v (suc (suc zero)) h = dif-zero (v * 0) ∙ dif-eq (v * 0) 0 (v * 2) (2 * v) (omega arith)
times v (suc (suc (suc zero))) h = dif-zero (v * 1) ∙ dif-eq (v * 1) 0 (v * 3) (2 * v) (omega arith)
times v (suc (suc (suc (suc zero)))) h = dif-zero (v * 2) ∙ dif-eq (v * 2) 0 (v * 4) (2 * v) (omega arith)
times v (suc (suc (suc (suc (suc j))))) h = absurd (omega arith)

-- a sum of differences
sum-dif : (n : ℕ) (z : ℕ → ℤ) (g k : ℕ → ℕ) → ((j : ℕ) → j < n → z j ≡ dif (g j) (k j)) → sumℤ-below n z ≡ dif (sum_below n g) (sum_below n k)
unfolding sumℤ-below sum_below
sum-dif zero z g k h = sym (dif-same 0)
sum-dif (suc n) z g k h =
    ap (λ (x : ℤ). x +ℤ z n) (sum-dif n z g k (λ j l. h j (omega arith)))
    ∙ ap (λ (x : ℤ). dif (sum_below n g) (sum_below n k) +ℤ x) (h n (omega arith))
    ∙ dif-add (sum_below n g) (sum_below n k) (g n) (k n)

sum_twice : (n : ℕ) (g : ℕ → ℕ) → sum_below n (λ j. 2 * g j) ≡ 2 * sum_below n g
unfolding sum_below
sum_twice zero g = refl
sum_twice (suc n) g = let i = sum_twice n g in omega arith

-- the sums with places from 0 are those with offsets, and twice the brightness more
pub shift_x-is : (samples : List ℕ) (width row column : ℕ) → shift_x samples width row column ≡ pos (moment_x samples width row column) -ℤ pos
    (2 * brightness samples width row column)
unfolding shift_x moment_x brightness dif
shift_x-is samples width row column =
    sum-dif 5 _ (λ i. sum_below 5 (λ j. weight samples width row column i j * j)) (λ i. sum_below 5 (λ j. 2 * weight samples width row column i j))
    (λ i p. sum-dif 5 _ (λ j. weight samples width row column i j * j) (λ j. 2 * weight samples width row column i j)
    (λ j q. times (weight samples width row column i j) j q))
    ∙ ap (λ (x : ℕ). dif (sum_below 5 (λ i. sum_below 5 (λ j. weight samples width row column i j * j))) x)
    (ap (sum_below 5) (fun_ext (λ (i : ℕ). sum_twice 5 (λ j. weight samples width row column i j)))
    ∙ sum_twice 5 (λ i. sum_below 5 (λ j. weight samples width row column i j)))

pub shift_y-is : (samples : List ℕ) (width row column : ℕ) → shift_y samples width row column ≡ pos (moment_y samples width row column) -ℤ pos
    (2 * brightness samples width row column)
unfolding shift_y moment_y brightness dif
shift_y-is samples width row column =
    sum-dif 5 _ (λ i. sum_below 5 (λ j. weight samples width row column i j * i)) (λ i. sum_below 5 (λ j. 2 * weight samples width row column i j))
    (λ i p. sum-dif 5 _ (λ j. weight samples width row column i j * i) (λ j. 2 * weight samples width row column i j)
    (λ j q. times (weight samples width row column i j) i p))
    ∙ ap (λ (x : ℕ). dif (sum_below 5 (λ i. sum_below 5 (λ j. weight samples width row column i j * i))) x)
    (ap (sum_below 5) (fun_ext (λ (i : ℕ). sum_twice 5 (λ j. weight samples width row column i j)))
    ∙ sum_twice 5 (λ i. sum_below 5 (λ j. weight samples width row column i j)))

quot-neg : (a b : ℕ) → quot_z (neg_ℤ (pos a)) (pos b) ≡ neg_ℤ (pos (a / b))
quot-neg zero b = rw zero-div
quot-neg (suc a) b = refl

times-neg : (a b : ℕ) → pos a *ℤ neg_ℤ (pos b) ≡ neg_ℤ (pos (a * b))
times-neg a zero = rw mul-zero
times-neg a (suc b) = refl

-- the position is 256 times the base plus the signed quotient
pub position-is : (base m b : ℕ) → 2 ≤ base → pos (position base m b) ≡ pos (256 * base) +ℤ quot_z (pos 256 *ℤ (pos m -ℤ pos (2 * b))) (pos b)
unfolding position dif
position-is base m b h = go (leb (2 * b) m) refl
  where
    go : (t : Bool) → leb (2 * b) m ≡ t
        → pos (cond t (256 * base + 256 * (m - 2 * b) / b) (256 * base - 256 * (2 * b - m) / b)) ≡ pos (256 * base) +ℤ quot_z (pos 256 *ℤ (pos m -ℤ pos (2 * b)))
        (pos b)
    go true e =
        let l = leb-true (2 * b) m e in
        let d : dif m (2 * b) ≡ pos (m - 2 * b) = dif-eq m (2 * b) (m - 2 * b) 0 (omega arith) ∙ sym (dif-zero (m - 2 * b)) in
        sym (ap (λ (z : ℤ). pos (256 * base) +ℤ quot_z (pos 256 *ℤ z) (pos b)) d)
    go false e =
        let l = leb-false (2 * b) m e in
        let q = quotient-small (2 * b - m) b (omega arith) in
        let d : dif m (2 * b) ≡ neg_ℤ (pos (2 * b - m)) = dif-eq m (2 * b) 0 (2 * b - m) (omega arith) ∙ sym (neg-dif (2 * b - m)) in
        let c = 256 * (2 * b - m) / b in
        (dif-zero (256 * base - c) ∙ dif-eq (256 * base - c) 0 (256 * base) c (omega arith))
        ∙ sym
        (ap (λ (z : ℤ). pos (256 * base) +ℤ quot_z (pos 256 *ℤ z) (pos b)) d
        ∙ ap (λ (z : ℤ). pos (256 * base) +ℤ quot_z z (pos b)) (times-neg 256 (2 * b - m))
        ∙ ap (λ (z : ℤ). pos (256 * base) +ℤ z) (quot-neg (256 * (2 * b - m)) b))

-- ---- the centroid

module _ (samples : List ℕ) (width row column : ℕ) where
  pub x-position : 2 ≤ column → pos (position column (moment_x samples width row column) (brightness samples width row column))
      ≡ along column (shift_x samples width row column) (brightness samples width row column)
  x-position h =
      position-is column (moment_x samples width row column) (brightness samples width row column) h
      ∙ ap (λ (z : ℤ). along column z (brightness samples width row column)) (sym (shift_x-is samples width row column))

  pub y-position : 2 ≤ row → pos (position row (moment_y samples width row column) (brightness samples width row column))
      ≡ along row (shift_y samples width row column) (brightness samples width row column)
  y-position h =
      position-is row (moment_y samples width row column) (brightness samples width row column) h
      ∙ ap (λ (z : ℤ). along row z (brightness samples width row column)) (sym (shift_y-is samples width row column))

  -- the sentence of document 01: the position is the signed number
  pub x-is : 2 ≤ column → pos (centroid_of samples width row column).x ≡ along column (shift_x samples width row column) (brightness samples width row column)
  unfolding centroid_of
  x-is h = ap (λ (z : ℤ). pos (nat_abs z)) (sym (x-position h)) ∙ x-position h

  pub y-is : 2 ≤ row → pos (centroid_of samples width row column).y ≡ along row (shift_y samples width row column) (brightness samples width row column)
  unfolding centroid_of
  y-is h = ap (λ (z : ℤ). pos (nat_abs z)) (sym (y-position h)) ∙ y-position h

  -- what the code computes is the centroid
  pub from-moments : 2 ≤ row → 2 ≤ column → (m : Moments) → MomentsOf samples width row column m
      → from_moments row column m ≡ centroid_of samples width row column
  unfolding centroid_of
  from-moments p q m s = rw (s.across, s.down, s.bright, ← x-position q, ← y-position p)
