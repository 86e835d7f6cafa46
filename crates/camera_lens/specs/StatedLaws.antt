-- The settings file's F comes back: F over 256 is a float, and its focal length is F. A kind that is none is refused. Assumes nothing.
use borrow.Author.Tests.{eq-eqb, ne_eqb}
use Rattle.std.specs.Prelude.{◌≡◌, ℕ, ◌^◌, ◌<◌, false, pos, ◌≢◌, Float}
use Rattle.std.proofs.Common.{sym, subst, le_of_lt, lt_of_lt_of_le, mul_assoc, mul-lt-mul_of_pos_right, arith, lit<, lit≤}
use Rattle.std.specs.Float.{fin, binary64}
use Rattle.std.specs.Float.Ieee.{of_int, round, div}
use Rattle.std.specs.Float.Ieee.Exact.{HasValue, round_exact}
use Rattle.floats.proofs.Whole.{whole-quotient}
use Rattle.camera_lens.specs.declared.Lens.TheVariants.{Millimetres, Pixels}
use Rattle.camera_lens.specs.Lens.{focal_of, out_of_range}
use Rattle.camera_lens.specs.Stated.{none, stated_lens}
use Rattle.camera_lens.specs.RefusedLaws.{zeros, pixels-not-above}

-- ---- the settings file

-- n / 256 is rounded to itself
exact : (n : ℕ) → n < 2 ^ 53 → HasValue (round binary64 false n 256) false n 256
exact n h =
    round_exact binary64 false n 256 n 1066 (lit< tt) h
    (lt_of_lt_of_le (mul-lt-mul_of_pos_right h (lit< tt)) (lit≤ tt))
    (sym (mul_assoc n (2 ^ 1066) 256))

abbrev pub pixels : ℕ → Float
pixels n = div binary64 (of_int binary64 (pos n)) (of_int binary64 (pos 256))

-- so F over 256 loses nothing
pub settings-exact : (n : ℕ) → n < 2 ^ 53 → HasValue (pixels n) false n 256
settings-exact n h = subst (λ (x : Float). HasValue x false n 256) (sym (whole-quotient (pos n) 256 (le_of_lt h) (lit≤ tt) (lit< tt))) (exact n h)

-- ---- a kind and two numbers

module _ (kind : ℕ) (first second : Float) where
  pub by-millimetres : kind ≡ 0 → stated_lens kind first second ≡ Millimetres first second
  unfolding stated_lens
  by-millimetres e = rw (eq-eqb kind 0 e)

  pub by-pixels : kind ≡ 1 → stated_lens kind first second ≡ Pixels first
  unfolding stated_lens
  by-pixels e = rw (ne_eqb kind 0 (λ k. omega arith), eq-eqb kind 1 e)

  pub by-none : (kind ≢ 0) → (kind ≢ 1) → stated_lens kind first second ≡ none
  unfolding stated_lens
  by-none a b = rw (ne_eqb kind 0 a, ne_eqb kind 1 b)

  -- whatever the numbers are
  pub none-refused : 1 < kind → focal_of (stated_lens kind first second) ≡ out_of_range
  none-refused h = rw (by-none (λ e. omega arith) (λ e. omega arith)) (pixels-not-above (fin false 0 (pos 0)) (zeros false (pos 0)))
