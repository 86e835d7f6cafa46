-- WHAT THE FLOATS COST: an entry whose size is below 2 x 10^9 is sent as a float that is within 2 parts in 10^16 of the entry over 10^9, with its sign. So is
-- every entry of a matrix that is nearly a rotation. Assumes nothing.
use Rattle.std.specs.Prelude.{Bool, not, ◌≡◌, T, ℤ, nat_abs, Float}
use Rattle.std.proofs.Common.{sym, ap, subst, le_trans, lt_of_le_of_lt, mul-le-mul, mul-le-mul_left, mul-pos, mod-lt, div-lt_iff_lt-mul, arith, leb→le, eqb→eq, lit<, pow-add, pow_pos, pow_mono}
use Prim.Native.Nat.{ℕ, zero, suc, ◌+◌, ◌-◌, ◌*◌, ◌/◌, ◌%◌, ◌^◌, ◌≤◌, ◌<◌, compare, Ordering}
use Rattle.std.proofs.Math.Nat.{div-add-mod, div-div-eq-div-mul}
use Rattle.std.proofs.Math.Dec.{is_le, compare_is_eq, nleb→lt}
use Rattle.std.proofs.Math.Pow.{pow-lt}
use Rattle.std.specs.Float.{binary64}
use Rattle.std.specs.Float.Ieee.{size, nearest, round}
use Rattle.std.specs.Float.Ieee.Digits.{size-le}
use Rattle.std.specs.Float.Ieee.Exact.{HasValue, units_val}
use Rattle.std.specs.Float.Ieee.Fits.{nearest-le, kept-lt, round_is}
use Rattle.attitude.specs.declared.Matrix.{Matrix}
use Rattle.floats.specs.Whole.{negative}
use Rattle.attitude_gimbal.specs.Cosines.{cosine_of, rows_of}
use Rattle.attitude_gimbal.specs.Exact.{rounded-once}

-- x is finite, has the sign of z, and is within `parts` in 10^16 of z over 10^9: it is top / bottom in size
pub record Sent (parts : ℕ) (z : ℤ) (x : Float) : Type 0 where
  pub top : ℕ
  pub bottom : ℕ
  pub positive : 0 < bottom
  pub value : HasValue x (negative z) top bottom
  pub not_more : 10000000000000000 * (1000000000 * top) ≤ 10000000000000000 * (nat_abs z * bottom) + parts * (1000000000 * bottom)
  pub not-less : 10000000000000000 * (nat_abs z * bottom) ≤ 10000000000000000 * (1000000000 * top) + parts * (1000000000 * bottom)

-- ---- the nearest whole number is off by half a unit at the most

module _ (w r u : ℕ) (l : r < u) where
  tie : (p : ℕ) → p ≤ 1 → r * 2 ≡ u → (2 * ((w + p) * u) ≤ 2 * (u * w + r) + u) × (2 * (u * w + r) ≤ 2 * ((w + p) * u) + u)
  tie zero h e = (omega arith, omega arith)
  tie (suc zero) h e = (omega arith, omega arith)
  tie (suc (suc p)) h e = absurd (omega arith)

  nearest-near :
      (o : Ordering) → (T (is_le o) → r * 2 ≤ u) → (T (not (is_le o)) → u < r * 2) → (T (compare_is_eq o) → r * 2 ≡ u) →
      (2 * (nearest w o * u) ≤ 2 * (u * w + r) + u) × (2 * (u * w + r) ≤ 2 * (nearest w o * u) + u)
  nearest-near Ordering.lt f g h = let k = f tt in (omega arith, omega arith)
  nearest-near Ordering.eq f g h = tie (w % 2) (omega arith) (h tt)
  nearest-near Ordering.gt f g h = let k = g tt in (omega arith, omega arith)

-- half of b, at most half of p, is 2 parts in 10^16 of c at the most, where c is 2^52 p
module _ (num den q b p c : ℕ) (h : b ≤ p) (e : c ≡ p * 4503599627370496) where
  more_parts : 2 * (q * (den * b)) ≤ 2 * (num * c) + den * b → 10000000000000000 * (den * (q * b)) ≤ 10000000000000000 * (num * c) + 2 * (den * c)
  more_parts f = omega (arith, mul-le-mul_left den h, ap (λ (x : ℕ). den * x) e)

  less-parts : 2 * (num * c) ≤ 2 * (q * (den * b)) + den * b → 10000000000000000 * (num * c) ≤ 10000000000000000 * (den * (q * b)) + 2 * (den * c)
  less-parts f = omega (arith, mul-le-mul_left den h, ap (λ (x : ℕ). den * x) e)

-- ---- rounding, for a fraction below 2

-- the whole part, in smallest values, has at most 1,075 digits, so that at most 1,022 are dropped
module _ (num den : ℕ) (d : 0 < den) (small : num < 2 * den) where
  abbrev n : ℕ
  n = num * 2 ^ 1074

  abbrev k : ℕ
  k = size (n / den) - 53

  abbrev u : ℕ
  u = den * 2 ^ k

  abbrev q : ℕ
  q = nearest (n / u) (compare (n % u * 2) u)

  digits : n / den < 2 ^ 1075
  digits = (div-lt_iff_lt-mul d).1 (double (2 ^ 1074) (pow_pos 1074) (pow-add 2 1 1074))
    where
      double : (p : ℕ) → 0 < p → 2 ^ 1075 ≡ 2 ^ 1 * p → num * p < 2 ^ 1075 * den
      double p h e = rw e (let o : num + 1 ≤ 2 * den = omega arith in omega (arith, mul-le-mul_left p o))

  dropped : k ≤ 1022
  dropped = omega (arith, size-le (n / den) 1075 digits)

  unit-pos : 0 < u
  unit-pos = mul-pos d (pow_pos k)

  few : q ≤ 2 ^ 53
  few =
      le_trans (nearest-le (n / u) (compare (n % u * 2) u))
      (subst (λ (x : ℕ). x < 2 ^ 53) (div-div-eq-div-mul n den (2 ^ k)) (kept-lt 53 (n / den)))

  no_overflow : q * 2 ^ k < 2 ^ 2098
  no_overflow =
      lt_of_le_of_lt (mul-le-mul few (pow_mono {i = k} {j = 1022} dropped))
      (subst (λ (x : ℕ). x < 2 ^ 2098) (pow-add 2 53 1022) (pow-lt {i = 1075} {j = 2098} (lit< tt)))

  halves : (2 * (q * u) ≤ 2 * n + u) × (2 * n ≤ 2 * (q * u) + u)
  halves =
      subst (λ (x : ℕ). (2 * (q * u) ≤ 2 * x + u) × (2 * x ≤ 2 * (q * u) + u)) (div-add-mod n u)
      (nearest-near (n / u) (n % u) u (mod-lt n unit-pos) (compare (n % u * 2) u) (leb→le (n % u * 2) u) (nleb→lt (n % u * 2) u) (eqb→eq (n % u * 2) u))

  rounded-value : (s : Bool) → HasValue (round binary64 s num den) s (q * 2 ^ k) (2 ^ 1074)
  rounded-value s = subst (λ (x : Float). HasValue x s (q * 2 ^ k) (2 ^ 1074)) (sym (round_is binary64 s num den)) (units_val binary64 s q k no_overflow)

-- ---- an entry

pub entry-sent : (z : ℤ) → nat_abs z < 2000000000 → Sent 2 z (cosine_of z)
entry-sent z h =
    let a = nat_abs z in
    let b : ℕ = 1000000000 in
    let d : 0 < b = lit< tt in
    let o : a < 2 * b = omega arith in
    let two = pow_mono {i = k a b d o} {j = 1022} (dropped a b d o) in
    let top = pow-add 2 1022 52 in
    record {
      top = q a b d o * 2 ^ k a b d o;
      bottom = 2 ^ 1074;
      positive = pow_pos 1074;
      value = subst (λ (x : Float). HasValue x (negative z) (q a b d o * 2 ^ k a b d o) (2 ^ 1074)) (sym (rounded-once z (record { within = omega arith })))
          (rounded-value a b d o (negative z));
      not_more = more_parts a b (q a b d o) (2 ^ k a b d o) (2 ^ 1022) (2 ^ 1074) two top (halves a b d o).0;
      not-less = less-parts a b (q a b d o) (2 ^ k a b d o) (2 ^ 1022) (2 ^ 1074) two top (halves a b d o).1;
    }

-- ---- a matrix that is nearly a rotation

-- the rows that are sent, entry by entry
pub record RowsSent (parts : ℕ) (m : Matrix) : Type 0 where
  pub xx : Sent parts m.row0.x (rows_of m).row0.x
  pub xy : Sent parts m.row0.y (rows_of m).row0.y
  pub xz : Sent parts m.row0.z (rows_of m).row0.z
  pub yx : Sent parts m.row1.x (rows_of m).row1.x
  pub yy : Sent parts m.row1.y (rows_of m).row1.y
  pub yz : Sent parts m.row1.z (rows_of m).row1.z
  pub zx : Sent parts m.row2.x (rows_of m).row2.x
  pub zy : Sent parts m.row2.y (rows_of m).row2.y
  pub zz : Sent parts m.row2.z (rows_of m).row2.z
