-- Squares of signed numbers, numbers that lie near each other, and three numbers that are drawn out to a length of 10^9: what the quotients toward zero leave
-- of that length. Assumes nothing.
use Rattle.std.specs.Prelude.{◌≡◌, refl, Bool, true, false, cond, not, ℕ, zero, suc, ◌+◌, ◌-◌, ◌*◌, ◌/◌, ◌≤◌, ◌<◌, T, ltb, ℤ, pos, negsuc, nat_abs, ◌-ℤ◌, ◌*ℤ◌}
use Rattle.std.proofs.Common.{ap, mul-le-mul, mul-le-mul_left, mod-lt, arith, ltb→lt, nltb→le}
use Rattle.std.proofs.Math.Nat.{div-add-mod, le_of_mul-le-mul_left}
use Rattle.std.proofs.Math.Decide.{dec_le}
use Rattle.std.proofs.Math.IntN.{ -ℤ-+ℤ_cancel}
use Rattle.numbers.specs.Abs.{abs-add}
use Rattle.numbers.specs.Within.{Within}
use Rattle.numbers.specs.Root.{Root, square-next}

pub square : (z : ℤ) → z *ℤ z ≡ pos (nat_abs z * nat_abs z)
square (pos n) = refl
square (negsuc n) = refl

cond-within : (c : Bool) (x y : ℤ) (b : ℕ) → (T c → nat_abs x ≤ b) → (T (not c) → nat_abs y ≤ b) → nat_abs (cond c x y) ≤ b
cond-within true x y b f g = f tt
cond-within false x y b f g = g tt

pub apart-within : {k : ℕ} (a b : ℕ) → a ≤ b + k → b ≤ a + k → Within k (pos a -ℤ pos b)
apart-within a zero h l = record { within = omega arith }
apart-within {k} a (suc b) h l =
    record { within = cond-within (ltb a (suc b)) _ _ k (λ t. omega (arith, ltb→lt a (suc b) t)) (λ t. omega (arith, nltb→le a (suc b) t)) }

-- and back
pub not-above : {k : ℕ} (a b : ℕ) → Within k (pos a -ℤ pos b) → a ≤ b + k
not-above a b w = omega (arith, w.within, abs-add (pos a -ℤ pos b) (pos b), ap nat_abs (-ℤ-+ℤ_cancel (pos a) (pos b)))

-- ---- 10^9 a over n

module _ (n a : ℕ) (h : 0 < n) where
  pub drawn-below : n * (1000000000 * a / n) ≤ 1000000000 * a
  drawn-below = omega (arith, div-add-mod (1000000000 * a) n)

  pub drawn-above : 1000000000 * a ≤ n * (1000000000 * a / n) + n
  drawn-above = omega (arith, div-add-mod (1000000000 * a) n, mod-lt (1000000000 * a) h)

-- twice a product is no more than the two squares
mean-more : (u e : ℕ) → 2 * (u * (u + e)) ≤ (u + e) * (u + e) + u * u
mean-more u e = omega arith

mean-of : (u x : ℕ) → u ≤ x → 2 * (u * x) ≤ x * x + u * u
mean-of u x h = let e : u + (x - u) ≡ x = omega arith in rw e at (mean-more u (x - u))

mean : (u x : ℕ) → Dec (u ≤ x) → 2 * (u * x) ≤ x * x + u * u
mean u x (yes h) = mean-of u x h
mean u x (no h) = omega (arith, mean-of x u (omega arith))

-- n is the root of a² + b² + c², and x, y and z are 10^9 a, 10^9 b and 10^9 c over n: then x² + y² + z² is at most 10^18 + k, where 2 x 10^18 is at most
-- n k, and at least 10^18 - 4 x 10^9
module _ (k n a b c x y z : ℕ) (s : Root (a * a + b * b + c * c) n) (l : 2000000000000000000 ≤ n * k) where
  positive-if : (n : ℕ) → 2000000000000000000 ≤ n * k → 0 < n
  positive-if zero h = omega arith
  positive-if (suc m) h = omega arith

  positive : 0 < n * n
  positive = let h : 1 ≤ n = positive-if n l in omega (arith, mul-le-mul h h)

  pub upper : n * x ≤ 1000000000 * a → n * y ≤ 1000000000 * b → n * z ≤ 1000000000 * c → x * x + y * y + z * z ≤ 1000000000000000000 + k
  upper i j o =
      let f = mul-le-mul i i in
      let g = mul-le-mul j j in
      let h = mul-le-mul o o in
      let m = mul-le-mul_left n l in
      let r = s.above in
      let e : n * n * (x * x + y * y + z * z) ≤ n * n * (1000000000000000000 + k) = omega (arith, square-next n) in
      le_of_mul-le-mul_left e positive

  pub lower :
      1000000000 * a ≤ n * x + n → 1000000000 * b ≤ n * y + n → 1000000000 * c ≤ n * z + n → 1000000000000000000 ≤ x * x + y * y + z * z + 4000000000
  lower i j o =
      let f = mul-le-mul i i in
      let g = mul-le-mul j j in
      let h = mul-le-mul o o in
      let e : n * n * 1000000000000000000 ≤ n * n * (x * x + y * y + z * z + 2 * (x + y + z) + 3) = omega (arith, s.below) in
      omega
      (arith, le_of_mul-le-mul_left e positive, mean 1000000000 x (dec_le _ _), mean 1000000000 y (dec_le _ _), mean 1000000000 z (dec_le _ _))
