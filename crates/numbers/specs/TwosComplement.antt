-- Two's complement: a word in the lower half of its width's words stands for itself, one in the upper half for the number that is their count below it.
-- Assumes nothing.
use Rattle.std.specs.Prelude.{cond, ◌≡◌, refl, ℕ, zero, suc, ◌+◌, ◌-◌, ◌≤◌, ◌<◌, ltb, ℤ, pos, negsuc, ◌-ℤ◌}
use Rattle.std.proofs.Common.{ap, ◌∙◌, add-zero, lt-ltb, le-ltb}
use Rattle.std.proofs.Math.IntN.{+ℤ_idl}

-- by half the count of the words; `negsuc k` is -(k + 1)
abbrev pub signed_by : ℕ → ℕ → ℤ
signed_by half word = cond (ltb word half) (pos word) (negsuc (half + half - 1 - word))

abbrev pub half64 : ℕ
half64 = 9223372036854775808

-- the signed number that has the same 64 bits; `signed_by half64` computes to it
abbrev pub signed_of : ℕ → ℤ
signed_of n = cond (ltb n 9223372036854775808) (pos n) (negsuc (18446744073709551615 - n))

abbrev pub half32 : ℕ
half32 = 2147483648

abbrev pub signed32_of : ℕ → ℤ
signed32_of word = signed_by half32 word

-- -k - 1
pub one_below : (k : ℕ) → pos 0 -ℤ pos k -ℤ pos 1 ≡ negsuc k
one_below zero = refl
one_below (suc k) = ap (λ (z : ℤ). z -ℤ pos 1) (+ℤ_idl (negsuc k)) ∙ ap (λ (n : ℕ). negsuc (suc n)) (add-zero k)

-- ---- by the half that a word is in

module _ (half word : ℕ) where
  pub signed_low : word < half → signed_by half word ≡ pos word
  signed_low h = rw (lt-ltb word half h)

  pub signed_high : half ≤ word → signed_by half word ≡ negsuc (half + half - 1 - word)
  signed_high h = rw (le-ltb word half h)
