-- The range of q as the code tests it, and by any fraction that q equals. Assumes nothing.
use Rattle.std.proofs.Common.{ltb-true, leb-true, eqb-true, lt-ltb, le-leb, eq-eqb, ne_eqb, true≢false, inl, inr, sym, ap, ◌∙◌, subst, eq-or-lt_of_le, mul_comm, mul_assoc, mul_right_comm, mul-le-mul_right, mul-lt-mul_of_pos_right, le_of_mul-le-mul_right, lt_of_mul-lt-mul_right, arith}
use Rattle.std.specs.Prelude.{◌≡◌, ℕ, ◌+◌, ◌*◌, ◌/◌, ◌<◌, ◌≤◌, Bool, true, false, ◌&&◌, ◌||◌, ltb, pos, negsuc, ◌==◌, nat_le, nat_lt, refl, Float}
use Rattle.std.proofs.lemmas.Bool.{false≢true}
use Rattle.std.specs.Float.{nan, inf, fin}
use Rattle.std.specs.Float.Ieee.{up, down, level, lt, eq, le}
use Rattle.std.specs.Float.Ieee.Fits.{down_pos}
use Rattle.std.specs.Float.Ieee.Exact.{HasValue}
use Rattle.std.specs.Float.Ieee.Nearest.{div_same}
use Rattle.std.specs.Float.Ieee.Positive.{num, den}
use Rattle.lists.specs.TestsLaws.{both_true}
use Rattle.camera_lens.specs.Lens.{above_zero, in_range, whole_of}

-- ---- two tests that hold alike

same_bool : (p q : Bool) → (p ≡ true → q ≡ true) → (q ≡ true → p ≡ true) → p ≡ q
same_bool true q f g = sym (f refl)
same_bool false true f g = g refl
same_bool false false f g = refl

same-leb : {a b c d : ℕ} → (a ≤ b → c ≤ d) → (c ≤ d → a ≤ b) → nat_le a b ≡ nat_le c d
same-leb {a} {b} {c} {d} f g = same_bool (nat_le a b) (nat_le c d) (λ e. le-leb c d (f (leb-true a b e))) (λ e. le-leb a b (g (leb-true c d e)))

same-ltb : {a b c d : ℕ} → (a < b → c < d) → (c < d → a < b) → nat_lt a b ≡ nat_lt c d
same-ltb {a} {b} {c} {d} f g = same_bool (nat_lt a b) (nat_lt c d) (λ e. lt-ltb c d (f (ltb-true a b e))) (λ e. lt-ltb a b (g (ltb-true c d e)))

-- ---- the code's tests: 64 ≤ q < 4194305 / 256

abbrev pub least : Float
least = fin false 1 (pos 6)

abbrev pub limit : Float
limit = fin false 4194305 (negsuc 7)

-- below or level is at most
or-le : (a b : ℕ) → (nat_lt a b || (a == b && true)) ≡ nat_le a b
or-le a b = same_bool (nat_lt a b || (a == b && true)) (nat_le a b) (λ e. le-leb a b (to (nat_lt a b) (a == b) (ltb-true a b) (eqb-true a b) e))
    (λ e. from (leb-true a b e))
  where
    or-true : (p : Bool) → (p || true) ≡ true
    or-true true = refl
    or-true false = refl

    to : (p q : Bool) → (p ≡ true → a < b) → (q ≡ true → a ≡ b) → (p || (q && true)) ≡ true → a ≤ b
    to true q f g e = let h = f refl in omega arith
    to false true f g e = let h = g refl in omega arith
    to false false f g e = absurd (false≢true e)

    from : a ≤ b → (nat_lt a b || (a == b && true)) ≡ true
    from h = elim (eq-or-lt_of_le h) [ inl e ↦ rw (eq-eqb a b e) (or-true (nat_lt a b)) | inr l ↦ rw (lt-ltb a b l) ]

-- as much as c of a number above zero
least-value : (d n : ℕ) → nat_le (64 * d) (n * 1) ≡ nat_le (16384 * d) (256 * n)
least-value d n = same-leb {a = 64 * d} {b = n * 1} {c = 16384 * d} {d = 256 * n} (λ h. omega arith) (λ h. omega arith)

limit-value : (d n : ℕ) → nat_lt (n * 256) (4194305 * d) ≡ nat_lt (256 * n) (4194305 * d)
limit-value d n = ap (λ (k : ℕ). ltb k (4194305 * d)) (mul_comm n 256)

-- 64 is not level with a number below zero
not-level : (d n : ℕ) (t : Bool) → 0 < d → (level false (64 * d) true n && t) ≡ false
not-level d n t h = rw (ne_eqb (64 * d) 0 (λ e. omega arith)) (and-false (64 * d == n))
  where
    and-false : (p : Bool) → (p && false && t) ≡ false
    and-false true = refl
    and-false false = refl

pub tests : (q : Float) → (le least q && lt q limit) ≡ in_range q
unfolding le lt eq in_range
tests nan = refl
tests (inf true) = refl
tests (inf false) = refl
tests (fin true m e) = not-level (down e) (m * up e * 1) (nat_lt 0 (m * up e * 256 + 4194305 * down e)) (down_pos e)
tests (fin false m e) =
    λ i. (or-le (64 * down e) (m * up e * 1) ∙ least-value (down e) (m * up e)) i && limit-value (down e) (m * up e) i

-- ---- a q in range is above zero

at-least : (d n : ℕ) → (nat_le (16384 * d) (256 * n) && nat_lt (256 * n) (4194305 * d)) ≡ true → 16384 * d ≤ 256 * n
at-least d n h = leb-true (16384 * d) (256 * n) (both_true (nat_le (16384 * d) (256 * n)) (nat_lt (256 * n) (4194305 * d)) h).0

below : (d n : ℕ) → (nat_le (16384 * d) (256 * n) && nat_lt (256 * n) (4194305 * d)) ≡ true → 256 * n < 4194305 * d
below d n h = ltb-true (256 * n) (4194305 * d) (both_true (nat_le (16384 * d) (256 * n)) (nat_lt (256 * n) (4194305 * d)) h).1

-- a q in range is m * 2^e, and 256 q lies between the two ends
pub record Between (n d : ℕ) : Type 0 where
  pub least : 16384 * d ≤ 256 * n
  pub below : 256 * n < 4194305 * d

pub between : (q : Float) → in_range q ≡ true → HasValue q false (num q) (den q) × Between (num q) (den q)
unfolding in_range
between nan h = absurd (false≢true h)
between (inf s) h = absurd (false≢true h)
between (fin true m e) h = absurd (false≢true h)
between (fin false m e) h = ((refl, refl), record { least = at-least (down e) (m * up e) h; below = below (down e) (m * up e) h })

pub range-above : (q : Float) → in_range q ≡ true → above_zero q ≡ true
unfolding in_range lt
range-above nan h = absurd (false≢true h)
range-above (inf s) h = absurd (false≢true h)
range-above (fin true m e) h = absurd (false≢true h)
range-above (fin false m e) h = lt-ltb (0 * down e) (m * up e * 1) (positive (down e) (m * up e) (down_pos e) (at-least (down e) (m * up e) h))
  where
    positive : (d n : ℕ) → 0 < d → 16384 * d ≤ 256 * n → 0 * d < n * 1
    positive d n p k = omega arith

-- ---- by any fraction a / c that q equals

-- n / d and a / c are equal: what one is at most, or is below, so is the other
module _ (k l n d a c : ℕ) (v : n * c ≡ a * d) (p : 0 < d) (r : 0 < c) where
  scale : l * n * c ≡ l * a * d
  scale = mul_assoc l n c ∙ ap (λ (x : ℕ). l * x) v ∙ sym (mul_assoc l a d)

  cross-le : k * d ≤ l * n → k * c ≤ l * a
  cross-le h = le_of_mul-le-mul_right (subst (λ (x : ℕ). k * c * d ≤ x) scale (subst (λ (x : ℕ). x ≤ l * n * c) (mul_right_comm k d c) (mul-le-mul_right c h)))
      p

  cross-lt : l * n < k * d → l * a < k * c
  cross-lt h = lt_of_mul-lt-mul_right d (subst (λ (x : ℕ). x < k * c * d) scale
      (subst (λ (x : ℕ). l * n * c < x) (mul_right_comm k d c) (mul-lt-mul_of_pos_right h r)))

pub range-of : (q : Float) (a c : ℕ) → HasValue q false a c → 0 < c → in_range q ≡ (nat_le (16384 * c) (256 * a) && nat_lt (256 * a) (4194305 * c))
unfolding in_range
range-of nan a c v p = absurd v
range-of (inf s) a c v p = absurd v
range-of (fin true m e) a c v p = absurd (true≢false v.0)
range-of (fin false m e) a c v p =
    let n = m * up e in
    let d = down e in
    let w = v.1 in
    let low = same-leb (cross-le 16384 256 n d a c w (down_pos e) p) (cross-le 16384 256 a c n d (sym w) p (down_pos e)) in
    let high = same-ltb (cross-lt 4194305 256 n d a c w (down_pos e) p) (cross-lt 4194305 256 a c n d (sym w) p (down_pos e)) in
    λ i. low i && high i

pub whole-of : (q : Float) (a c : ℕ) → HasValue q false a c → 0 < c → whole_of q ≡ 256 * a / c
unfolding whole_of
whole-of nan a c v p = absurd v
whole-of (inf s) a c v p = absurd v
whole-of (fin t m e) a c v p = div_same (256 * (m * up e)) (down e) (256 * a) c (down_pos e) p (scale 1 256 (m * up e) (down e) a c v.1 (down_pos e) p)
