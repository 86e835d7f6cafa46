-- A word as a signed number, by its first byte; and the decimal of a signed number reads back as that number. Assumes nothing.
use Rattle.std.specs.Prelude.{Bool, true, false, cond, ◌≡◌, refl, List, [], ◌∷◌, map, ℕ, suc, ◌≤◌, ◌<◌, ltb, eqb, ℤ, pos, negsuc, neg_ℤ, length, drop, get_or}
use Rattle.std.proofs.Common.{sym, ap, ◌∙◌, arith, lt-ltb, le-ltb, eq-eqb, ne_eqb, w64, FitsSigned}
use Rattle.std.proofs.Math.Decide.{dec_lt}
use Rattle.std.specs.Int.Signed.{mag}
use Rattle.text.specs.Decimal.{decimal, signed_decimal}
use Rattle.text.specs.DecimalLaws.{is-decimal}
use Rattle.text.specs.Parse.{parsed_of, numbers_of as sizes_of, numbers_for as sizes_for}
use Rattle.text.specs.Sign.{fitting, positive_of, negative_of, parsed_signed_of, numbers_of, held, numbers_for}
use Rattle.text.specs.ParseLaws.{decimal-parsed, told as sizes-told}
use Rattle.std.specs.Prelude.{Option, Some, None, Result, Ok, Err}
use Rattle.std.specs.Option.{SomeIff}
use Rattle.std.specs.Result.{OkIff, result_ok}

pub fits : (z : ℤ) → mag z < 9223372036854775808 → fitting z ≡ Some z
unfolding fitting
fits z h = rw (lt-ltb (mag z) 9223372036854775808 h)

pub too_far : (z : ℤ) → 9223372036854775808 ≤ mag z → fitting z ≡ None
unfolding fitting
too_far z h = rw (le-ltb (mag z) 9223372036854775808 h)

-- so a number that std has where 64 bits hold it
pub fitted : (r : Option ℤ) (z : ℤ) → SomeIff r (FitsSigned w64 z) z → r ≡ fitting z
fitted (Some x) z h = ap (λ (y : ℤ). Some y) h.1 ∙ sym (fits z h.0.sfits)
fitted None z h = by (dec_lt (mag z) 9223372036854775808)
  where
    by : Dec (mag z < 9223372036854775808) → None ≡ fitting z
    by (yes l) = absurd (h (record { sfits = l }))
    by (no l) = sym (too_far z (omega arith))

pub converted : {E : Type 0} (r : Result ℤ E) (z : ℤ) → OkIff r (FitsSigned w64 z) z → result_ok r ≡ fitting z
converted (Ok x) z h = fitted (Some x) z h
converted (Err e) z h = fitted None z h

pub empty-read : (word : List ℕ) → length word ≡ 0 → parsed_signed_of word ≡ None
unfolding parsed_signed_of
empty-read [] h = refl
empty-read (b ∷ word) h = absurd (omega arith)

pub minus-read : (word : List ℕ) → 0 < length word → get_or word 0 0 ≡ 45 → parsed_signed_of word ≡ negative_of (parsed_of (drop 1 word))
unfolding parsed_signed_of
minus-read [] h e = absurd (omega arith)
minus-read (b ∷ word) h e = rw (eq-eqb b 45 e)

pub size-read : (word : List ℕ) → 0 < length word → (get_or word 0 0 ≡ 45 → ⊥) → parsed_signed_of word ≡ positive_of (parsed_of word)
unfolding parsed_signed_of
size-read [] h e = absurd (omega arith)
size-read (b ∷ word) h e = rw (ne_eqb b 45 e)

-- a signed number of 64 bits in decimal reads back as that number
pub signed-parsed : (z : ℤ) → mag z < 9223372036854775808 → parsed_signed_of (signed_decimal z) ≡ Some z
unfolding signed_decimal
signed-parsed (pos n) h =
    let d = is-decimal n in
    rw (le-ltb n 0 (omega arith))
    (size-read (decimal n) d.some (λ e. omega (arith, (d.digits 0 d.some).0))
    ∙ ap (λ (p : Option ℕ). positive_of p) (decimal-parsed n (omega arith))
    ∙ fits (pos n) h)
signed-parsed (negsuc k) h =
    minus-read (45 ∷ decimal (suc k)) (omega arith) refl
    ∙ ap (λ (p : Option ℕ). negative_of p) (decimal-parsed (suc k) (omega arith))
    ∙ fits (negsuc k) h

-- ---- as values

held_one : (z : ℤ) → numbers_of (fitting z) ≡ held 9223372036854775808 (z ∷ [])
unfolding fitting held
held_one z = by (ltb (mag z) 9223372036854775808)
  where
    by : (b : Bool) → numbers_of (cond b (Some z) None) ≡ cond b (z ∷ []) []
    by true = refl
    by false = refl

positive-held : (p : Option ℕ) → numbers_of (positive_of p) ≡ held 9223372036854775808 (sizes_of p)
unfolding held
positive-held (Some n) = held_one (pos n)
positive-held None = refl

negative-held : (p : Option ℕ) → numbers_of (negative_of p) ≡ held 9223372036854775808 (map neg_ℤ (sizes_of p))
unfolding held
negative-held (Some n) = held_one (neg_ℤ (pos n))
negative-held None = refl

numbers-are : (word : List ℕ) → numbers_of (parsed_signed_of word) ≡ numbers_for word
unfolding parsed_signed_of numbers_for
numbers-are [] = refl
numbers-are (b ∷ word) = by (eqb b 45)
  where
    by : (t : Bool) → numbers_of (cond t (negative_of (parsed_of word)) (positive_of (parsed_of (b ∷ word))))
        ≡ held 9223372036854775808 (cond t (map neg_ℤ (sizes_for word)) (sizes_for (b ∷ word)))
    by true = negative-held (parsed_of word) ∙ ap (λ (xs : List ℤ). held 9223372036854775808 (map neg_ℤ xs)) (sizes-told word refl).1
    by false = positive-held (parsed_of (b ∷ word)) ∙ ap (held 9223372036854775808) (sizes-told (b ∷ word) refl).1

pub told : (word : List ℕ) {s : Option ℤ} → s ≡ parsed_signed_of word → (s ≡ parsed_signed_of word) × (numbers_of s ≡ numbers_for word)
told word e = (e, ap (λ (s : Option ℤ). numbers_of s) e ∙ numbers-are word)
