-- What decimal is: digits only, whose value is the number, with no zero in front but that of "0" itself. Assumes nothing.
use Rattle.std.specs.Prelude.{◌≡◌, refl, List, [], ◌∷◌, ◌++◌, ℕ, zero, suc, ◌+◌, ◌-◌, ◌*◌, ◌/◌, ◌%◌, ◌^◌, ◌≤◌, ◌<◌, length, get_or}
use Rattle.std.proofs.Common.{sym, ap, ◌∙◌, subst, arith, lt-ltb, le-ltb, length-append}
use Rattle.std.proofs.Math.Nat.{pow-succ'}
use Rattle.std.proofs.Math.Decide.{dec_lt}
use Rattle.std.proofs.Math.ListN.{get_or-append}
use Rattle.std.proofs.lemmas.List.{get_or_at}
use Rattle.text.specs.Decimal.{digit, spelled, decimal}
use Rattle.text.specs.Parse.{value_from, value_of}

-- ---- the two ways that a number is spelled

spelled-small : (most n : ℕ) → n < 10 → spelled most n ≡ digit n ∷ []
unfolding spelled
spelled-small zero n h = refl
spelled-small (suc most) n h = rw (lt-ltb n 10 h)

spelled-large : (most n : ℕ) → 10 ≤ n → spelled (suc most) n ≡ spelled most (n / 10) ++ (digit (n % 10) ∷ [])
unfolding spelled
spelled-large most n h = rw (le-ltb n 10 h)

-- any bound that is large enough gives the same
spelled_same : (a b n : ℕ) → n ≤ a → n ≤ b → spelled a n ≡ spelled b n
spelled_same zero b n h k = spelled-small zero n (omega arith) ∙ sym (spelled-small b n (omega arith))
spelled_same (suc a) zero n h k = spelled-small (suc a) n (omega arith) ∙ sym (spelled-small zero n (omega arith))
spelled_same (suc a) (suc b) n h k = by (spelled_same a b (n / 10) (omega arith) (omega arith)) (dec_lt n 10)
  where
    by : spelled a (n / 10) ≡ spelled b (n / 10) → Dec (n < 10) → spelled (suc a) n ≡ spelled (suc b) n
    by e (yes l) = spelled-small (suc a) n l ∙ sym (spelled-small (suc b) n l)
    by e (no l) =
        spelled-large a n (omega arith)
        ∙ ap (λ (t : List ℕ). t ++ (digit (n % 10) ∷ [])) e
        ∙ sym (spelled-large b n (omega arith))

pub decimal-small : (n : ℕ) → n < 10 → decimal n ≡ digit n ∷ []
unfolding decimal
decimal-small n h = spelled-small n n h

pub decimal-large : (n : ℕ) → 10 ≤ n → decimal n ≡ decimal (n / 10) ++ (digit (n % 10) ∷ [])
unfolding decimal
decimal-large zero h = absurd (omega arith)
decimal-large (suc n) h = spelled-large n (suc n) h ∙ ap (λ (t : List ℕ). t ++ (digit (suc n % 10) ∷ []))
    (spelled_same n (suc n / 10) (suc n / 10) (omega arith) (omega arith))

-- ---- what its digits are worth

value-behind : (v : ℕ) (bytes : List ℕ) (b : ℕ) → value_from v (bytes ++ (b ∷ [])) ≡ 10 * value_from v bytes + (b - 48)
unfolding value_from
value-behind v [] b = refl
value-behind v (x ∷ bytes) b = value-behind (10 * v + (x - 48)) bytes b

-- ---- what decimal is

pub record IsDecimal (n : ℕ) (bytes : List ℕ) : Type 0 where
  pub some : 0 < length bytes
  pub digits : (k : ℕ) → k < length bytes → (48 ≤ get_or bytes k 0) × (get_or bytes k 0 ≤ 57)
  pub value : value_of bytes ≡ n
  pub front : get_or bytes 0 0 ≡ 48 → bytes ≡ 48 ∷ []

is-small : (n : ℕ) → n < 10 → IsDecimal n (digit n ∷ [])
unfolding value_from
is-small n h =
    record {
      some = omega arith;
      digits = digits-one;
      value = omega arith;
      front = λ e. ap (λ (b : ℕ). b ∷ []) e;
    }
  where
    digits-one : (k : ℕ) → k < 1 → (48 ≤ get_or (digit n ∷ []) k 0) × (get_or (digit n ∷ []) k 0 ≤ 57)
    digits-one zero l = omega arith
    digits-one (suc k) l = absurd (omega arith)

is-large : (n : ℕ) (bytes : List ℕ) → 10 ≤ n → IsDecimal (n / 10) bytes → IsDecimal n (bytes ++ (digit (n % 10) ∷ []))
unfolding value_from
is-large n bytes h d =
    record {
      some = omega (arith, d.some, length-append bytes (digit (n % 10) ∷ []));
      digits = λ k l. by k l (dec_lt k (length bytes));
      value = omega (arith, value-behind 0 bytes (digit (n % 10)), d.value);
      front = λ e. absurd (zero-front (d.front (sym (get_or-append bytes (digit (n % 10) ∷ []) 0 0 d.some) ∙ e)));
    }
  where
    zero-front : bytes ≡ 48 ∷ [] → ⊥
    zero-front e = omega (arith, d.value, ap value_of e)

    by : (k : ℕ) → k < length (bytes ++ (digit (n % 10) ∷ [])) → Dec (k < length bytes) → (48 ≤ get_or (bytes ++ (digit (n % 10) ∷ [])) k 0)
        × (get_or (bytes ++ (digit (n % 10) ∷ [])) k 0 ≤ 57)
    by k l (yes i) = rw (get_or-append bytes (digit (n % 10) ∷ []) 0 k i) (d.digits k i)
    by k l (no i) =
        let e : length bytes ≡ k = omega (arith, length-append bytes (digit (n % 10) ∷ [])) in
        rw (get_or_at bytes (digit (n % 10)) [] 0 k e) (omega arith)

is-decimal-to : (most n : ℕ) → n ≤ most → IsDecimal n (decimal n)
is-decimal-to zero n h = subst (IsDecimal n) (sym (decimal-small n (omega arith))) (is-small n (omega arith))
is-decimal-to (suc most) n h = by (is-decimal-to most (n / 10) (omega arith)) (dec_lt n 10)
  where
    by : IsDecimal (n / 10) (decimal (n / 10)) → Dec (n < 10) → IsDecimal n (decimal n)
    by d (yes l) = subst (IsDecimal n) (sym (decimal-small n l)) (is-small n l)
    by d (no l) = subst (IsDecimal n) (sym (decimal-large n (omega arith))) (is-large n (decimal (n / 10)) (omega arith) d)

pub is-decimal : (n : ℕ) → IsDecimal n (decimal n)
is-decimal n = is-decimal-to n n (omega arith)

-- a number below 10^k has at most k digits
pub decimal-length : (k n : ℕ) → n < 10 ^ suc k → length (decimal n) ≤ suc k
decimal-length zero n h = omega (arith, ap length (decimal-small n (omega arith)))
decimal-length (suc k) n h = by (λ l. decimal-length k (n / 10) (omega (arith, pow-succ' 10 (suc k)))) (dec_lt n 10)
  where
    by : (10 ≤ n → length (decimal (n / 10)) ≤ suc k) → Dec (n < 10) → length (decimal n) ≤ suc (suc k)
    by f (yes l) = omega (arith, ap length (decimal-small n l))
    by f (no l) =
        let g : 10 ≤ n = omega arith in
        omega (arith, f g, ap length (decimal-large n g), length-append (decimal (n / 10)) (digit (n % 10) ∷ []))
