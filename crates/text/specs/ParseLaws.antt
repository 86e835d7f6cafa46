-- What a word's number is: the decimal of a number reads back as that number, and zeros in front change nothing. Assumes nothing.
use Rattle.std.specs.Prelude.{Bool, true, false, cond, ◌&&◌, ◌≡◌, refl, List, [], ◌∷◌, ℕ, suc, ◌+◌, ◌-◌, ◌*◌, ◌≤◌, ◌<◌, ltb, pos, length, drop, get_or}
use Rattle.std.proofs.Common.{sym, ap, ◌∙◌, arith, add-one, lt-ltb, le-ltb, le-leb, drop_of_length-le, drop-cons}
use Rattle.std.proofs.Math.Decide.{dec_lt}
use Rattle.std.proofs.lemmas.Bool.{lt-leb}
use Rattle.lists.specs.Contradiction.{contradiction}
use Rattle.text.specs.Decimal.{decimal}
use Rattle.text.specs.DecimalLaws.{is-decimal}
use Rattle.text.specs.Parse.{is_digit, all_digits, value_from, value_of, parsed_from, parsed_of, numbers_of, numbers_for}
use Rattle.std.specs.Prelude.{Option, Some, None}

-- ---- digit by digit

pub digit-is : (b : ℕ) → 48 ≤ b → b ≤ 57 → is_digit b ≡ true
unfolding is_digit
digit-is b h k = rw (le-leb 48 b h, le-leb b 57 k)

pub digit-below : (b : ℕ) → b < 48 → is_digit b ≡ false
unfolding is_digit
digit-below b h = rw (lt-leb 48 b h)

pub digit-above : (b : ℕ) → 57 < b → is_digit b ≡ false
unfolding is_digit
digit-above b h = rw (le-leb 48 b (omega arith), lt-leb b 57 h)

-- behind a digit, its value goes on
pub parsed-digit : (v b : ℕ) (bytes : List ℕ) → is_digit b ≡ true → parsed_from v (b ∷ bytes) ≡ parsed_from (10 * v + (b - 48)) bytes
unfolding parsed_from all_digits value_from
parsed-digit v b bytes e = rw e

pub parsed-other : (v b : ℕ) (bytes : List ℕ) → is_digit b ≡ false → parsed_from v (b ∷ bytes) ≡ None
unfolding parsed_from all_digits value_from
parsed-other v b bytes e = rw e

pub parsed-end : (v : ℕ) → v < 18446744073709551616 → parsed_from v [] ≡ Some v
unfolding parsed_from all_digits value_from
parsed-end v h = rw (lt-ltb v 18446744073709551616 h)

-- more digits never make a value less
value_grows : (v : ℕ) (bytes : List ℕ) → v ≤ value_from v bytes
unfolding value_from
value_grows v [] = omega arith
value_grows v (b ∷ bytes) = omega (arith, value_grows (10 * v + (b - 48)) bytes)

-- so a value that does not fit stays one
pub parsed-large : (v : ℕ) (bytes : List ℕ) → 18446744073709551616 ≤ v → parsed_from v bytes ≡ None
unfolding parsed_from
parsed-large v bytes h =
    rw (le-ltb (value_from v bytes) 18446744073709551616 (omega (arith, value_grows v bytes))) (by (all_digits bytes))
  where
    by : (d : Bool) → cond (d && false) (Some (value_from v bytes)) None ≡ None
    by true = refl
    by false = refl

-- ---- one byte of a word after the other

module _ (v b : ℕ) where
  abbrev next : ℕ
  next = 10 * v + (b - 48)

  abbrev one : Option ℕ
  one = parsed_from v (b ∷ [])

  -- how the byte is read decides what it is
  pub byte-other : is_digit b ≡ false → one ≡ None
  byte-other p = parsed-other v b [] p

  pub byte-large : is_digit b ≡ true → 18446744073709551616 ≤ next → one ≡ None
  byte-large p h = parsed-digit v b [] p ∙ parsed-large next [] h

  pub byte-digit : is_digit b ≡ true → next < 18446744073709551616 → one ≡ Some next
  byte-digit p h = parsed-digit v b [] p ∙ parsed-end next h

  number-only : (n m : ℕ) → one ≡ Some n → one ≡ Some m → n ≡ m
  number-only n m e f = cc

  no_number : (n : ℕ) → one ≡ Some n → one ≡ None → ⊥
  no_number n e f = contradiction (cc)

  goes_on : (n : ℕ) (bytes : List ℕ) (d : Bool) → is_digit b ≡ d → Dec (next < 18446744073709551616) → one ≡ Some n → (n < 18446744073709551616)
      × (parsed_from v (b ∷ bytes) ≡ parsed_from n bytes)
  goes_on n bytes false p l e = absurd (no_number n e (byte-other p))
  goes_on n bytes true p (no l) e = absurd (no_number n e (byte-large p (omega arith)))
  goes_on n bytes true p (yes l) e =
      let same = number-only next n (byte-digit p l) e in
      (omega arith, parsed-digit v b bytes p ∙ ap (λ (x : ℕ). parsed_from x bytes) same)

  stops : (bytes : List ℕ) (d : Bool) → is_digit b ≡ d → Dec (next < 18446744073709551616) → one ≡ None → parsed_from v (b ∷ bytes) ≡ None
  stops bytes false p l e = parsed-other v b bytes p
  stops bytes true p (no l) e = parsed-digit v b bytes p ∙ parsed-large next bytes (omega arith)
  stops bytes true p (yes l) e = absurd (no_number next (byte-digit p l) e)

module _ (word : List ℕ) (i v : ℕ) (inside : i < length word) where
  pub parsed-next : (n : ℕ) → parsed_from v (get_or word i 0 ∷ []) ≡ Some n → (n < 18446744073709551616)
      × (parsed_from v (drop i word) ≡ parsed_from n (drop (i + 1) word))
  parsed-next n e = rw (add-one, drop-cons word i 0 inside) (goes_on v (get_or word i 0) n (drop (suc i) word) (is_digit (get_or word i 0)) refl (dec_lt _ _) e)

  pub parsed-stop : parsed_from v (get_or word i 0 ∷ []) ≡ None → parsed_from v (drop i word) ≡ None
  parsed-stop e = rw (drop-cons word i 0 inside) (stops v (get_or word i 0) (drop (suc i) word) (is_digit (get_or word i 0)) refl (dec_lt _ _) e)

module _ (word : List ℕ) where
  pub parsed-some : 0 < length word → parsed_of word ≡ parsed_from 0 word
  unfolding parsed_of
  parsed-some h = rw (lt-ltb 0 (length word) h)

  pub parsed-empty : length word ≡ 0 → parsed_of word ≡ None
  unfolding parsed_of
  parsed-empty h = rw (le-ltb 0 (length word) (omega arith))

  -- what was read when the word ends
  pub parsed-whole : (i v : ℕ) → length word ≤ i → v < 18446744073709551616 → parsed_from v (drop i word) ≡ Some v
  parsed-whole i v h k = ap (parsed_from v) (drop_of_length-le word h) ∙ parsed-end v k

-- ---- what it is for

all_digits_lem : (bytes : List ℕ) → ((k : ℕ) → k < length bytes → (48 ≤ get_or bytes k 0) × (get_or bytes k 0 ≤ 57)) → all_digits bytes ≡ true
unfolding all_digits
all_digits_lem [] h = refl
all_digits_lem (b ∷ bytes) h = rw (digit-is b (h 0 (omega arith)).0 (h 0 (omega arith)).1, all_digits_lem bytes (λ k l. h (suc k) (omega arith)))

-- the decimal of a number that fits reads back as that number
pub decimal-parsed : (n : ℕ) → n < 18446744073709551616 → parsed_of (decimal n) ≡ Some n
unfolding parsed_from
decimal-parsed n h =
    let d = is-decimal n in
    parsed-some (decimal n) d.some
    ∙ rw (all_digits_lem (decimal n) d.digits, d.value, lt-ltb n 18446744073709551616 h)

-- a zero in front changes nothing
pub zero-in-front : (word : List ℕ) → 0 < length word → parsed_of (48 ∷ word) ≡ parsed_of word
zero-in-front word h =
    parsed-some (48 ∷ word) (omega arith)
    ∙ parsed-digit 0 48 word (digit-is 48 (omega arith) (omega arith))
    ∙ sym (parsed-some word h)

-- ---- as values

pub told : (word : List ℕ) {p : Option ℕ} → p ≡ parsed_of word → (p ≡ parsed_of word) × (numbers_of p ≡ numbers_for word)
unfolding parsed_of parsed_from
told word e = (e, ap (λ (p : Option ℕ). numbers_of p) e ∙ by (ltb 0 (length word)) (all_digits word && ltb (value_of word) 18446744073709551616))
  where
    by : (a b : Bool) → numbers_of (cond a (cond b (Some (value_of word)) None) None) ≡ cond (a && b) (pos (value_of word) ∷ []) []
    by true true = refl
    by true false = refl
    by false b = refl
