-- What `shift_of` is for: `Shift m k` says that 2^k is the smallest power of two that brings m below 2^30. Assumes nothing.
use Rattle.std.specs.Prelude.{◌≡◌, Bool, true, false, cond, not, ℕ, zero, suc, ◌+◌, ◌/◌, ◌^◌, ◌≤◌, ◌<◌, T, ltb}
use Rattle.std.proofs.Common.{subst, le_antisymm, lt_of_lt_of_le, add-zero, le_refl, add-one, arith, ltb→lt, nltb→le, lit≤, shr_lt, shr-shr, pow_mono, below_none, below_more}
use Rattle.std.proofs.Math.Decide.{dec_le}
use Rattle.attitude.specs.Scale.{first_shift, shift_of}

pub record Shift (m k : ℕ) : Type 0 where
  pub small : m / 2 ^ k < 2 ^ 30
  pub least : (j : ℕ) → j < k → 2 ^ 30 ≤ m / 2 ^ j

-- ---- `shift_of` finds it

pick-shift : (c : Bool) (m k l : ℕ) → (T c → Shift m k) → (T (not c) → Shift m l) → Shift m (cond c k l)
pick-shift true m k l f g = f tt
pick-shift false m k l f g = g tt

first-is : (f k m : ℕ) → ((j : ℕ) → j < k → 2 ^ 30 ≤ m / 2 ^ j) → m < 2 ^ (30 + (k + f)) → Shift m (first_shift f k m)
unfolding first_shift
first-is zero k m h l = record { small = shr_lt 30 k (rw add-zero at l); least = h }
first-is (suc f) k m h l =
    pick-shift (ltb (m / 2 ^ k) (2 ^ 30)) m k (first_shift f (k + 1) m)
    (λ t. record { small = ltb→lt _ _ t; least = h })
    (λ t. first-is f (k + 1) m (below_more _ _ h (nltb→le _ _ t)) (subst (λ (n : ℕ). m < 2 ^ (30 + n)) (one_more k f) l))
  where
    one_more : (k f : ℕ) → k + suc f ≡ k + 1 + f
    one_more k f = omega arith

pub shift_is : (m : ℕ) → m < 2 ^ 64 → Shift m (shift_of m)
unfolding shift_of
shift_is m h = first-is 64 0 m (below_none _) (lt_of_lt_of_le h (pow_mono {i = 64} {j = 94} (lit≤ tt)))

-- ---- and there is no other

not-above : {m k l : ℕ} → Shift m k → Shift m l → Dec (l ≤ k) → l ≤ k
not-above p q (yes h) = h
not-above {m} {k} {l} p q (no h) = let i : k < l = omega arith in omega (arith, q.least k i, p.small)

pub shift-of : {m k : ℕ} → m < 2 ^ 64 → Shift m k → k ≡ shift_of m
shift-of {m} h p = le_antisymm (not-above (shift_is m h) p (dec_le _ _)) (not-above p (shift_is m h) (dec_le _ _))

-- ---- how large it is

below : (n m k : ℕ) → m < 2 ^ (30 + n) → 2 ^ 30 ≤ m / 2 ^ k → Dec (n ≤ k) → k < n
below n m k h g (no i) = omega arith
below n m k h g (yes i) =
    omega (arith, shr_lt {n = m} 30 k (lt_of_lt_of_le h (pow_mono {i = 30 + n} {j = 30 + k} (omega arith))))

-- an exponent that does not bring m below 2^30 is below n where m is below 2^(30 + n)
pub shift-lt : (n m k : ℕ) → m < 2 ^ (30 + n) → 2 ^ 30 ≤ m / 2 ^ k → k < n
shift-lt n m k h g = below n m k h g (dec_le n k)

-- at most 31 for a component of a cross product
pub shift-at : (m k : ℕ) → m < 2 ^ 61 → Shift m k → k ≤ 31
shift-at m zero h s = omega arith
shift-at m (suc j) h s = shift-lt 31 m j h (s.least j (le_refl (suc j)))

-- what is not below 2^30 is not brought down to 0
pub kept : (m k : ℕ) → 2 ^ 30 ≤ m → Shift m k → 0 < m / 2 ^ k
kept m zero h s = omega arith
kept m (suc j) h s = omega (arith, s.least j (le_refl (suc j)), rw add-one at (shr-shr m j 1))
