-- Which numbers 32 bits hold, one test at a time, as the code meets them. Assumes nothing.
use Rattle.std.specs.Prelude.{Bool, true, false, cond, List, [], ◌∷◌, ◌≡◌, refl, ℕ, ◌<◌, ◌≤◌, ltb, ℤ, pos, negsuc}
use Rattle.std.proofs.Common.{sym, ap, ◌∙◌, arith, ltb-true, ltb-false, lt-ltb, le-ltb, w32, FitsSigned}
use Rattle.std.proofs.Math.Decide.{dec_lt}
use Rattle.std.specs.Int.Signed.{mag, lt_z}
use Rattle.std.specs.Result.{OkIff, result_ok}
use Rattle.lists.specs.Contradiction.{contradiction}
use Rattle.text.specs.Sign as sign
use Rattle.text.specs.Sign.{parsed_signed_of}
use Rattle.text.specs.SignLaws.{told as signed-told}
use Rattle.desk_lines.specs.cut.Limit.{limit_for, narrowed, limit_of, numbers_of, numbers_for}
use Rattle.std.specs.Prelude.{Option, Some, None, Result, Ok, Err}

far : (z : ℤ) → 2147483648 ≤ mag z → limit_for z ≡ None
unfolding limit_for
far z h = rw (le-ltb (mag z) 2147483648 h)

pub too-low : (z : ℤ) → lt_z z (negsuc 2147483647) ≡ true → limit_for z ≡ None
too-low (pos n) e = contradiction e
too-low (negsuc n) e = far (negsuc n) (omega (arith, ltb-true 2147483647 n e))

pub too-high : (z : ℤ) → lt_z (pos 2147483647) z ≡ true → limit_for z ≡ None
too-high (pos n) e = far (pos n) (omega (arith, ltb-true 2147483647 n e))
too-high (negsuc n) e = contradiction e

pub held : (z : ℤ) → lt_z z (negsuc 2147483647) ≡ false → lt_z (pos 2147483647) z ≡ false → mag z < 2147483648
held (pos n) e d = omega (arith, ltb-false 2147483647 n d)
held (negsuc n) e d = omega (arith, ltb-false 2147483647 n e)

pub near : (z : ℤ) → mag z < 2147483648 → limit_for z ≡ Some z
unfolding limit_for
near z h = rw (lt-ltb (mag z) 2147483648 h)

-- so a number that std has where 32 bits hold it
pub converted : {E : Type 0} (r : Result ℤ E) (z : ℤ) → OkIff r (FitsSigned w32 z) z → result_ok r ≡ limit_for z
converted (Ok x) z h = ap (λ (y : ℤ). Some y) h.1 ∙ sym (near z h.0.sfits)
converted (Err e) z h = by (dec_lt (mag z) 2147483648)
  where
    by : Dec (mag z < 2147483648) → None ≡ limit_for z
    by (yes l) = absurd (h (record { sfits = l }))
    by (no l) = sym (far z (omega arith))

-- ---- as values

narrowed-held : (s : Option ℤ) → numbers_of (narrowed s) ≡ sign.held 2147483648 (sign.numbers_of s)
unfolding limit_for sign.held
narrowed-held None = refl
narrowed-held (Some z) = by (ltb (mag z) 2147483648)
  where
    by : (b : Bool) → numbers_of (cond b (Some z) None) ≡ cond b (z ∷ []) []
    by true = refl
    by false = refl

pub told : (word : List ℕ) {l : Option ℤ} → l ≡ limit_of word → (l ≡ limit_of word) × (numbers_of l ≡ numbers_for word)
told word e = (e, ap (λ (l : Option ℤ). numbers_of l) e ∙ narrowed-held (parsed_signed_of word) ∙ ap (sign.held 2147483648) (signed-told word refl).1)
