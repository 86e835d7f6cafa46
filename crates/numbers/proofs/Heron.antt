-- Heron's rule for a square root: of a guess x above 0, the mean of x and n / x is the next. The next guess is never below the root, and the part by which
-- it is above shrinks to about half its square, so that the number of right digits doubles. Nothing here depends on a word's size. Assumes nothing.
use mathlib.Core.Path.{◌≡◌, sym, ap, subst, ◌∙◌}
use Prim.Native.Nat.{ℕ, zero, suc, ◌+◌, ◌*◌, ◌/◌, ◌≤◌, ◌<◌}
use native.Mathlib.Nat.{le_dest, le_of_lt, lt_irrefl, lt_of_lt_of_le, lt_of_le_of_lt, mul_comm, mul-add, add-mul, mul_assoc, mul_left_comm}
use native.Mathlib.Nat.{mul-le-mul, mul-le-mul_left, mul-le-mul_right, le_of_mul-le-mul_left, mul-div-le, div-lt_iff_lt-mul}
use native.Mathlib.Decide.{dec_le}
use native.Mathlib.Omega.{arith}
use lib.Dec.{lit≤}
use Rattle.numbers.specs.Root.{Root, square-next}
use Rattle.numbers.specs.Near.{Near}

-- of two squares, the smaller has the smaller side
side : {a b : ℕ} → a * a < b * b → Dec (b ≤ a) → a < b
side {a} h (yes k) = absurd (lt_irrefl (a * a) (lt_of_lt_of_le h (mul-le-mul k k)))
side h (no k) = omega arith

pub side-lt : {a b : ℕ} → a * a < b * b → a < b
side-lt h = side h (dec_le _ _)

-- the product of two sums that begin alike
product-add : (s d e : ℕ) → (s + d) * (s + e) ≡ s * s + s * e + s * d + d * e
product-add s d e = simp (mul-add, add-mul) (omega (arith, mul_comm s d))

-- factors regrouped
scale : (k m x y : ℕ) → (k * x) * (m * y) ≡ (k * m) * (x * y)
scale k m x y = simp (mul_assoc, mul_left_comm)

-- twice a product is at most the sum of the two squares
products-le : (a b : ℕ) → 2 * (a * b) ≤ a * a + b * b
products-le a b = either (dec_le a b)
  where
    ordered : (a d : ℕ) → 2 * (a * (a + d)) ≤ a * a + (a + d) * (a + d)
    ordered a d = omega (arith, mul-add a a d, product-add a d d)

    by : (a b : ℕ) → a ≤ b → 2 * (a * b) ≤ a * a + b * b
    by a b h = let e = le_dest h in subst (λ (x : ℕ). 2 * (a * x) ≤ a * a + x * x) e.1 (ordered a e.0)

    either : Dec (a ≤ b) → 2 * (a * b) ≤ a * a + b * b
    either (yes h) = by a b h
    either (no k) = omega (arith, by b a (omega arith), mul_comm a b)

-- ---- one step, from x to the half of x + n / x

module _ (n x : ℕ) (positive : 0 < x) where
  abbrev next : ℕ
  next = (x + n / x) / 2

  -- the next guess is at most the mean of x and n / x
  mean-below : 2 * (x * next) ≤ x * x + n
  mean-below =
      let h : x * (2 * next) ≤ x * (x + n / x) = mul-le-mul_left x (omega arith) in
      omega (arith, mul_left_comm x 2 next, mul-add x x (n / x), mul-div-le n x, h)

  -- the next guess is not below the root, whatever x was: with m one more than it, n + x * x < 2 * x * m ≤ x * x + m * m
  mean-above : n < (next + 1) * (next + 1)
  mean-above =
      let m = next + 1 in
      let q : n < (n / x + 1) * x = (div-lt_iff_lt-mul positive).0 (omega arith) in
      let h : (x + (n / x + 1)) * x ≤ (2 * m) * x = mul-le-mul_right x (omega arith) in
      omega (arith, q, h, add-mul x (n / x + 1) x, mul_assoc 2 m x, mul_comm m x, products-le x m)

-- ---- how the distance to the root s shrinks: from a guess s + d to the next, s + e

-- (s + d) * e is at most half of d * d, and s
shrinks : (s d e n : ℕ) → n < (s + 1) * (s + 1) → 2 * ((s + d) * (s + e)) ≤ (s + d) * (s + d) + n → 2 * (s * e) + 2 * (d * e) ≤ d * d + 2 * s
shrinks s d e n above h = omega (arith, above, h, square-next s, product-add s d e, product-add s d d)

-- a root below 3: a guess at most 1 above it stays so
small : (s d e : ℕ) → 1 ≤ s → d ≤ 1 → 2 * (s * e) + 2 * (d * e) ≤ d * d + 2 * s → Dec (2 ≤ e) → e ≤ 1
small s d e one near h (yes two) = absurd (lt_irrefl 0 (omega (arith, mul-le-mul_left s two, mul-le-mul_left d two, mul-le-mul_left d near)))
small s d e one near h (no k) = omega arith

-- any other: where d is at most s / a + 3 / 2, e is at most s / (2 * a * a) + 3 / 2
module _ (a s d e : ℕ) (fine : 12 ≤ a) (three : 3 ≤ s) (near : 2 * (a * d) ≤ 2 * s + 3 * a) (step : 2 * (s * e) ≤ d * d + 2 * s) where
  squared : 4 * ((a * a) * (d * d)) ≤ 4 * (s * s) + 12 * (s * a) + 9 * (a * a)
  squared =
      omega (
        arith,
        mul-le-mul near near,
        scale 2 2 (a * d) (a * d),
        scale a a d d,
        product-add (2 * s) (3 * a) (3 * a),
        scale 2 2 s s,
        scale 2 3 s a,
        scale 3 3 a a,
      )

  far : 2 * s + 6 * (a * a) < 4 * ((a * a) * e) → ⊥
  far g =
      let p = a * a in
      let big : s * (2 * s + 6 * p + 1) ≤ s * (4 * (p * e)) = mul-le-mul_left s (omega arith) in
      let bigger : 2 * (s * s) + 6 * (s * p) + s ≤ 4 * (p * (s * e)) =
      omega (
        arith,
        big,
        mul-add s (2 * s + 6 * p) 1,
        mul-add s (2 * s) (6 * p),
        mul_left_comm s 2 s,
        mul_left_comm s 6 p,
        mul_left_comm s 4 (p * e),
        mul_left_comm s p e,
      ) in
      let wider : 2 * (p * (s * e)) ≤ p * (d * d) + 2 * (s * p) =
      omega (arith, mul-le-mul_left p step, mul_left_comm p 2 (s * e), mul-add p (d * d) (2 * s), mul_left_comm p 2 s, mul_comm p s) in
      let tall : 12 * (s * a) ≤ s * p = omega (arith, mul-le-mul_left s (mul-le-mul_right a fine), mul_left_comm s 12 a) in
      lt_irrefl 0 (omega (arith, squared, bigger, wider, tall, mul-le-mul_right p three))

-- so in every case
module _ (a s d e : ℕ) (fine : 12 ≤ a) (one : 1 ≤ s) (near : 2 * (a * d) ≤ 2 * s + 3 * a) (step : 2 * (s * e) + 2 * (d * e) ≤ d * d + 2 * s) where
  one-above : s ≤ 2 → Dec (2 ≤ d) → d ≤ 1
  one-above h (yes two) = absurd (lt_irrefl 0 (omega (arith, mul-le-mul_left a two)))
  one-above h (no k) = omega arith

  distance : Dec (3 ≤ s) → Dec (4 * ((a * a) * e) ≤ 2 * s + 6 * (a * a)) → 4 * ((a * a) * e) ≤ 2 * s + 6 * (a * a)
  distance b (yes h) = h
  distance (yes three) (no k) = absurd (far a s d e fine three near (omega arith) (omega arith))
  distance (no few) (no k) =
      omega (arith, mul-le-mul_left (a * a) (small s d e one (one-above (omega arith) (dec_le _ _)) step (dec_le _ _)))

nearer : {a n s x y : ℕ} → 12 ≤ a → 1 ≤ s → n < (s + 1) * (s + 1) → Near a s x → s ≤ y → 2 * (x * y) ≤ x * x + n → Near (2 * (a * a)) s y
nearer {a} {n} {s} {x} {y} fine one above near high mean =
    let d = le_dest near.above in
    let e = le_dest high in
    let start : 2 * (a * d.0) ≤ 2 * s + 3 * a = omega (arith, near.close, mul-add a s d.0, ap (λ (k : ℕ). a * k) d.1) in
    let meant : 2 * ((s + d.0) * (s + e.0)) ≤ (s + d.0) * (s + d.0) + n = rw (d.1, e.1) mean in
    let end = distance a s d.0 e.0 fine one start (shrinks s d.0 e.0 n above meant) (dec_le _ _) (dec_le _ _) in
    let p = a * a in
    let sum : (2 * p) * y ≡ 2 * (p * s) + 2 * (p * e.0) = ap (λ (k : ℕ). (2 * p) * k) (sym e.1)
    ∙ omega (arith, mul_assoc 2 p (s + e.0), mul-add p s e.0) in
    record { above = high; close = omega (arith, end, sum, mul_assoc 2 p s) }

-- a guess that is above the root by at most s / a + 3 / 2 is followed by one that is above it by at most s / (2 * a * a) + 3 / 2
pub closer : {a n s x : ℕ} → 12 ≤ a → 1 ≤ s → Root n s → Near a s x → Near (2 * (a * a)) s ((x + n / x) / 2)
closer {n} {s} {x} fine one root near =
    let positive : 0 < x = omega (arith, near.above) in
    let high : s < (x + n / x) / 2 + 1 = side-lt (lt_of_le_of_lt root.below (mean-above n x positive)) in
    nearer fine one root.above near (omega arith) (mean-below n x positive)

-- ---- the first guess

-- the larger of two with the larger of two others, and the smaller with the smaller, make more than crosswise
crosswise : {p q r t : ℕ} → p ≤ q → r ≤ t → p * t + q * r ≤ q * t + p * r
crosswise {p} {q} {r} {t} h k =
    let m = le_dest h in
    let l = le_dest k in
    subst (λ (q : ℕ). p * t + q * r ≤ q * t + p * r) m.1
    (subst (λ (t : ℕ). p * t + (p + m.0) * r ≤ (p + m.0) * t + p * r) l.1
    (omega (arith, mul-add p r l.0, add-mul p m.0 r, add-mul p m.0 (r + l.0), mul-add m.0 r l.0)))

-- one step from a number b whose square is from n / 2 to 2 * n: the next guess is above the root by at most a twelfth of it and 3 / 2
pub first : {n s b : ℕ} → Root n s → 0 < b → b * b ≤ 2 * n → n < 2 * (b * b) → Near 12 s ((b + n / b) / 2)
first {n} {s} {b} root positive most least =
    let y = (b + n / b) / 2 in
    let high : s < y + 1 = side-lt (lt_of_le_of_lt root.below (mean-above n b positive)) in
    let below : n ≤ s * s + 2 * s = omega (arith, root.above, square-next s) in
    let over : 2 * b < 3 * (s + 1) = side-lt (omega (arith, scale 2 2 b b, scale 3 3 (s + 1) (s + 1), square-next s)) in
    let under : 2 * s < 3 * b = side-lt (omega (arith, root.below, scale 2 2 s s, scale 3 3 b b)) in
    let cross : 6 * (b * b) + 6 * (s * s) + 6 * s ≤ 13 * (s * b) + 9 * b =
    omega (
      arith,
      crosswise (le_of_lt over) (le_of_lt under),
      scale 2 3 b b,
      scale 3 2 (s + 1) s,
      add-mul s 1 s,
      scale 3 3 (s + 1) b,
      add-mul s 1 b,
      scale 2 2 b s,
      mul_comm b s,
    ) in
    let times : b * (12 * y) ≤ b * (13 * s + 18) =
    omega (arith, mean-below n b positive, mul_left_comm b 12 y, mul-add b (13 * s) 18, mul_left_comm b 13 s, mul_comm b s, cross) in
    record { above = omega arith; close = omega (arith, le_of_mul-le-mul_left times positive) }

-- ---- the accuracy after k steps from such a guess

unfoldable pub accuracy : ℕ → ℕ
accuracy zero = 12
accuracy (suc k) = 2 * (accuracy k * accuracy k)

pub accuracy-least : (k : ℕ) → 12 ≤ accuracy k
unfolding accuracy
accuracy-least zero = lit≤ tt
accuracy-least (suc k) = omega (arith, mul-le-mul (accuracy-least k) (accuracy-least k))
