-- 256 q is exact where q is in range, and how its whole part is taken. Assumes nothing.
use Rattle.std.specs.Prelude.{◌≡◌, ℕ, zero, suc, ◌*◌, ◌^◌, ◌<◌, ◌≤◌, true, false, T, pos, Float}
use Rattle.std.proofs.Common.{true≢false, sym, subst, lt_of_lt_of_le, mul-one, zero-mul, mul_comm, mul-le-mul_right, lit≤}
use native.Mathlib.Omega.{arith}
use Rattle.std.specs.Float.Ieee.{nan, up, down, round, mul, fits}
use Rattle.std.specs.Float.{inf, fin, binary64}
use Rattle.std.specs.Float.Ieee.Fits.{down_pos}
use Rattle.std.specs.Float.Ieee.Exact.{HasValue}
use Rattle.std.specs.Float.Ieee.Positive.{num, den}
use Rattle.floats.specs.Scaled.{scaled_exact}
use Rattle.camera_lens.specs.Lens.{in_range}
use Rattle.camera_lens.specs.Range.{Between, between}

none : (n d : ℕ) → 0 < d → n ≡ 0 → 16384 * d ≤ 256 * n → ⊥
none n d p e k = omega arith

product : (q : Float) → T (fits binary64 q) → HasValue q false (num q) (den q) → Between (num q) (den q)
    → HasValue (mul binary64 q (fin false 1 (pos 8))) false (256 * num q) (den q)
unfolding mul
product nan t v b = absurd v
product (inf s) t v b = absurd v
product (fin true m e) t v b = absurd (true≢false v.0)
product (fin false zero e) t v b = absurd (none (0 * up e) (down e) (down_pos e) (zero-mul (up e)) b.least)
product (fin false (suc m) e) t v b =
    let n = suc m * up e in
    let small : n * 2 ^ 8 < 2 ^ 1024 * down e = lt_of_lt_of_le (subst (λ (x : ℕ). x < 4194305 * down e) (mul_comm 256 n) b.below)
    (mul-le-mul_right (down e) (lit≤ tt)) in
    subst (λ (x : ℕ). HasValue (round binary64 false (n * 256) x) false (256 * n) (down e)) (sym (mul-one (down e)))
    (subst (λ (x : ℕ). HasValue (round binary64 false (n * 256) (down e)) false x (down e)) (mul_comm n 256) (scaled_exact binary64 false false m e 8 t small))

pub times-256 : (q : Float) → T (fits binary64 q) → in_range q ≡ true → HasValue (mul binary64 q (fin false 1 (pos 8))) false (256 * num q) (den q)
times-256 q t h = let b = between q h in product q t b.0 b.1
