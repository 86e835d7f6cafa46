-- 256 q is exact where q is in range, and how its whole part is taken. Assumes nothing.
use Rattle.std.specs.Prelude.{◌≡◌, ℕ, ◌+◌, ◌-◌, ◌*◌, ◌/◌, ◌^◌, ◌<◌, min, true, false, T, pos, Float}
use Rattle.std.proofs.Common.{true≢false, sym, ◌∙◌, subst, lt_of_lt_of_le, mul-one, mul_right_comm, mul-lt-mul_of_pos_right, lt_of_mul-lt-mul_right, mul-le-mul_right, div-lt_iff_lt-mul, lit≤}
use Rattle.std.proofs.Math.Path.{ap}
use native.Mathlib.Omega.{arith}
use Rattle.std.proofs.Math.Dec.{lt→ltb}
use Rattle.std.specs.Float.Ieee.{nan, up, down, lt, to_unsigned}
use Rattle.std.specs.Float.{inf, fin}
use Rattle.std.specs.Float.Ieee.Fits.{down_pos}
use Rattle.std.specs.Float.Ieee.Exact.{HasValue}
use Rattle.std.specs.Float.Ieee.Nearest.{div_same}

-- ---- the whole part of a float x that is a / c, below 4194305

module _ (a c : ℕ) (p : 0 < c) (h : a < 4194305 * c) where
  -- what is asked to cut its fraction off
  pub cuttable : (x : Float) → HasValue x false a c → T (lt (fin true 1 (pos 0)) x) × T (lt x (fin false 1 (pos 64)))
  unfolding lt
  cuttable nan v = absurd v
  cuttable (inf s) v = absurd v
  cuttable (fin true m e) v = absurd (true≢false v.0)
  cuttable (fin false m e) v = (
    lt→ltb 0 (1 * down e + m * up e * 1) (some (down e) (m * up e) (down_pos e)),
    lt→ltb (m * up e * 1) (2 ^ 64 * down e) (small (m * up e) (down e) (down_pos e) v.1),
  )
    where
      some : (d n : ℕ) → 0 < d → 0 < 1 * d + n * 1
      some d n k = omega arith

      small : (n d : ℕ) → 0 < d → n * c ≡ a * d → n * 1 < 2 ^ 64 * d
      small n d g w =
          let k : n * c < 4194305 * d * c = subst (λ (x : ℕ). x < 4194305 * d * c) (sym w)
          (subst (λ (x : ℕ). a * d < x) (mul_right_comm 4194305 c d) (mul-lt-mul_of_pos_right h g)) in
          subst (λ (x : ℕ). x < 2 ^ 64 * d) (sym (mul-one n)) (lt_of_lt_of_le (lt_of_mul-lt-mul_right c k) (mul-le-mul_right d (lit≤ tt)))

  pub cut : (x : Float) → HasValue x false a c → to_unsigned 64 x ≡ a / c
  unfolding to_unsigned
  cut nan v = absurd v
  cut (inf s) v = absurd v
  cut (fin true m e) v = absurd (true≢false v.0)
  cut (fin false m e) v =
      let same = div_same (m * up e) (down e) a c (down_pos e) p v.1 in
      ap (λ (k : ℕ). min k (2 ^ 64 - 1)) same ∙ uncapped (a / c) ((div-lt_iff_lt-mul p).1 h)
    where
      uncapped : (k : ℕ) → k < 4194305 → min k (2 ^ 64 - 1) ≡ k
      uncapped k l = omega arith
