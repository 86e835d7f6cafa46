-- Heron's rule at 64 bits: where it starts, that its numbers fit a word, and what three steps leave. Assumes nothing.
use mathlib.Core.Path.{◌≡◌, refl, sym, ap, ◌∙◌}
use Prim.Native.Nat.{ℕ, zero, suc, ◌+◌, ◌-◌, ◌*◌, ◌/◌, ◌%◌, ◌^◌, ◌≤◌, ◌<◌}
use native.Mathlib.Nat.{lt_of_lt_of_le, lt_of_le_of_lt, mul-add, add-mul, mul_assoc, mul_left_comm, mul-le-mul, mul-le-mul_left, mul-le-mul_right}
use native.Mathlib.Nat.{le_of_mul-le-mul_left, div-lt_iff_lt-mul, pow-suc}
use native.Mathlib.Decide.{dec_le}
use native.Mathlib.Omega.{arith}
use lib.Count.{count_leading_zeros, leading_top}
use borrow.Author.Tests.{le-leb, lt-leb}
use lib.Dec.{lit<}
use lib.Pow.{pow-add, pow_mono, pow_pos, shl_exact}
use Rattle.numbers.specs.Root.{Root, root, root_is, square-root, square-next}
use Rattle.numbers.specs.Near.{Near}
use Rattle.numbers.specs.Steps.{half, guess, steps, settle}
use Rattle.numbers.proofs.Heron.{side-lt, first, closer, accuracy, accuracy-least}

-- ---- the start: the power of two at half of n's length

-- its square is from n / 2 to 2 * n
pub record Half (n h : ℕ) : Type 0 where
  pub most : 2 ^ h * 2 ^ h ≤ 2 * n
  pub least : n < 2 * (2 ^ h * 2 ^ h)
  pub short : h ≤ 32

halved : {n h j : ℕ} → j ≤ 63 → h ≡ suc j / 2 → 2 ^ j ≤ n → n < 2 ^ suc j → Dec (suc j ≤ h + h) → Half n h
halved {n} {h} {j} few e low high (yes k) =
    let even : h + h ≡ suc j = omega arith in
    let power : 2 ^ h * 2 ^ h ≡ 2 ^ suc j = sym (pow-add 2 h h) ∙ ap (λ (m : ℕ). 2 ^ m) even in
    record { most = omega (arith, power, pow-suc 2 j); least = omega (arith, power); short = omega arith }
halved {n} {h} {j} few e low high (no k) =
    let odd : h + h ≡ j = omega arith in
    let power : 2 ^ h * 2 ^ h ≡ 2 ^ j = sym (pow-add 2 h h) ∙ ap (λ (m : ℕ). 2 ^ m) odd in
    record { most = omega (arith, power); least = omega (arith, power, pow-suc 2 j); short = omega arith }

pub half_is : {n : ℕ} → 0 < n → n < 2 ^ 64 → Half n (half n)
half_is {n} positive fits =
    let top = leading_top 64 n positive fits in
    halved {j = top.0} (omega (arith, top.1)) (ap (λ (m : ℕ). m / 2) (omega (arith, top.1))) top.2 top.3 (dec_le _ _)

-- a word holds it, and its sum with n over it
pub power-held : {n h : ℕ} → Half n h → (1 * 2 ^ h) % 2 ^ 64 ≡ 2 ^ h
power-held {h} p = shl_exact {a = 1} 1 h 64 (lit< tt) (omega (arith, p.short)) ∙ omega arith

pub sum-held : {n h : ℕ} → Half n h → 2 ^ h + n / 2 ^ h < 2 ^ 64
sum-held {n} {h} p =
    let q : n / 2 ^ h < 2 * 2 ^ h = (div-lt_iff_lt-mul (pow_pos h)).1 (omega (arith, p.least, mul_assoc 2 (2 ^ h) (2 ^ h))) in
    omega (arith, pow_mono p.short)

-- ---- the end

-- what is known of a guess x that is the root s or one more: its square less 1, which fits, tells which
pub record Settled (n s x : ℕ) : Type 0 where
  pub positive : 1 ≤ x
  pub short : x ≤ 2 ^ 32
  pub square-held : (x - 1) * (x + 1) < 2 ^ 64
  pub is-root : (x - 1) * (x + 1) < n → Root n x
  pub one_more : n ≤ (x - 1) * (x + 1) → x - 1 ≡ s

-- the square of x, less 1
square-less : (x : ℕ) → 1 ≤ x → (x - 1) * (x + 1) + 1 ≡ x * x
square-less x h =
    let k = x - 1 in
    let e : k + 1 ≡ x = omega arith in
    omega (arith, ap (λ (y : ℕ). y * y) e, square-next k, mul-add k x 1, ap (λ (y : ℕ). k * y) e, mul-add k k 1)

module _ {n s : ℕ} (root : Root n s) (fits : n < 2 ^ 64) (one : 1 ≤ s) where
  root-short : s < 2 ^ 32
  root-short = side-lt {b = 2 ^ 32} (lt_of_le_of_lt root.below fits)

  -- a word holds the sum of a guess and n over it
  pub step-held : {a x : ℕ} → 12 ≤ a → Near a s x → x + n / x < 2 ^ 64
  step-held {a} {x} h near =
      let positive : 0 < x = omega (arith, near.above) in
      let below : n < (s + 3) * x = omega (arith, root.above, square-next s, add-mul s 3 x, mul-le-mul_left s near.above) in
      let times : a * x ≤ a * (2 * s + 2) = omega (arith, near.close, mul-add a (2 * s) 2, mul_left_comm a 2 s, mul-le-mul_right s h) in
      omega (arith, root-short, (div-lt_iff_lt-mul positive).1 below, le_of_mul-le-mul_left times (omega arith))

  -- three steps are enough
  pub settled : {x : ℕ} → Near (accuracy 3) s x → Settled n s x
  unfolding accuracy
  settled {x} near =
      let positive : 1 ≤ x = omega (arith, near.above) in
      let most : x ≤ s + 1 = omega (arith, near.close, root-short) in
      let short : x ≤ 2 ^ 32 = omega (arith, root-short) in
      let square = square-less x positive in
      let above : s + 1 ≤ x + 1 = omega (arith, near.above) in
      record {
        positive = positive;
        short = short;
        square-held = omega (arith, square, mul-le-mul short short);
        is-root = λ h. record { below = omega (arith, square, h); above = lt_of_lt_of_le root.above (mul-le-mul above above) };
        one_more = λ h. omega (arith, side-lt {a = s} {b = x} (omega (arith, square, h, root.below)));
      }

-- ---- the guess after k steps

module _ {n : ℕ} (positive : 0 < n) (fits : n < 2 ^ 64) where
  pub root-positive : 1 ≤ root n
  root-positive = square-root (root_is n) (omega arith)

  -- it is above the root by at most what k steps leave
  pub steps-near : (k : ℕ) → Near (accuracy k) (root n) (steps k n (guess n))
  unfolding accuracy steps
  steps-near zero = let h = half_is positive fits in first (root_is n) (pow_pos (half n)) h.most h.least
  steps-near (suc k) = closer (accuracy-least k) root-positive (root_is n) (steps-near k)

  -- a word holds the sum from which the next is made
  pub sum-after : (k : ℕ) → steps k n (guess n) + n / steps k n (guess n) < 2 ^ 64
  sum-after k = step-held (root_is n) fits root-positive (accuracy-least k) (steps-near k)

  -- after three it is the root or one more
  pub three : Settled n (root n) (steps 3 n (guess n))
  three = settled (root_is n) fits root-positive (steps-near 3)

-- the square less 1 tells what the square does
pub kept : (n x : ℕ) → 1 ≤ x → (x - 1) * (x + 1) < n → x ≡ settle n x
kept n x h k = rw (le-leb (x * x) n (omega (arith, square-less x h))) refl

pub lowered : (n x : ℕ) → 1 ≤ x → n ≤ (x - 1) * (x + 1) → x - 1 ≡ settle n x
lowered n x h k = rw (lt-leb (x * x) n (omega (arith, square-less x h))) refl

-- the root of 0 takes no step
pub root-of-none : 0 ≡ settle 0 (steps 0 0 (guess 0))
unfolding steps count_leading_zeros
root-of-none = refl
