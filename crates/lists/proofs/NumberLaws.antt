-- The laws of counting. Assumes nothing.
use Rattle.std.specs.Prelude.{Bool, true, false, ◌≡◌, refl, ℕ, zero, suc, ◌+◌, ◌*◌, ◌≤◌, ◌<◌}
use Rattle.std.proofs.Common.{sym, ap, ◌∙◌, mul-suc, not-suc-le-zero, add-one, arith}
use Rattle.std.proofs.Math.Decide.{ℕ_discrete}
use mir.Val.{bool_byte}
use Rattle.lists.specs.Number.{one, number, pairs}

-- a test as the code makes a number of it
pub byte_one : (b : Bool) → bool_byte b ≡ one b
byte_one true = refl
byte_one false = refl

pub one-most : (b : Bool) → one b ≤ 1
one-most true = omega arith
one-most false = omega arith

pub number-next : (n : ℕ) (test : ℕ → Bool) → number (n + 1) test ≡ number n test + one (test n)
unfolding number
number-next n test = rw add-one

pub number-most : (n : ℕ) (test : ℕ → Bool) → number n test ≤ n
unfolding number
number-most zero test = omega arith
number-most (suc n) test = omega (arith, number-most n test, one-most (test n))

-- the tests of the numbers counted alone decide
pub number_same : (n : ℕ) (f g : ℕ → Bool) → ((k : ℕ) → k < n → f k ≡ g k) → number n f ≡ number n g
unfolding number
number_same zero f g h = refl
number_same (suc n) f g h = rw (number_same n f g (λ k l. h k (omega arith)), h n (omega arith))

pub number-none : (n : ℕ) (test : ℕ → Bool) → ((k : ℕ) → k < n → test k ≡ false) → number n test ≡ 0
unfolding number
number-none zero test h = refl
number-none (suc n) test h = rw (number-none n test (λ k l. h k (omega arith)), h n (omega arith))

pub pairs_next : (m n : ℕ) (test : ℕ → ℕ → Bool) → pairs m (n + 1) test ≡ pairs m n test + number m (λ j. test j n)
unfolding pairs
pairs_next m n test = rw add-one

-- at most `most` for each of the second numbers
pub pairs-most : (most m n : ℕ) (test : ℕ → ℕ → Bool) → ((b : ℕ) → number m (λ j. test j b) ≤ most) → pairs m n test ≤ most * n
unfolding pairs
pairs-most most m zero test f = omega arith
pairs-most most m (suc n) test f = omega (arith, pairs-most most m n test f, f n, mul-suc most n)

pub pairs-same : (m n : ℕ) (f g : ℕ → ℕ → Bool) → ((j b : ℕ) → j < m → f j b ≡ g j b) → pairs m n f ≡ pairs m n g
unfolding pairs
pairs-same m zero f g h = refl
pairs-same m (suc n) f g h = rw (pairs-same m n f g h, number_same m (λ j. f j n) (λ j. g j n) (λ j l. h j n l))

-- one that does not pass leaves one less
pub number-but : (n : ℕ) (test : ℕ → Bool) (k : ℕ) → k < n → test k ≡ false → number n test < n
unfolding number
number-but zero test k h e = absurd (not-suc-le-zero h)
number-but (suc n) test k h e = go (ℕ_discrete k n) (λ l. number-but n test k l e)
  where
    go : Dec (k ≡ n) → (k < n → number n test < n) → number n test + one (test n) < suc n
    go (yes q) f =
        let z : one (test n) ≡ 0 = ap (λ (m : ℕ). one (test m)) (sym q) ∙ ap one e in
        omega (arith, number-most n test)
    go (no d) f = omega (arith, one-most (test n), f (omega arith))

-- and so does a second number of which no pair passes
pub pairs-but : (most m n : ℕ) (test : ℕ → ℕ → Bool) (a : ℕ) → a < n → ((b : ℕ) → number m (λ j. test j b) ≤ most) → number m (λ j. test j a) ≡ 0
    → pairs m n test + most ≤ most * n
unfolding pairs
pairs-but most m zero test a h f z = absurd (not-suc-le-zero h)
pairs-but most m (suc n) test a h f z = go (ℕ_discrete a n) (λ l. pairs-but most m n test a l f z)
  where
    go : Dec (a ≡ n) → (a < n → pairs m n test + most ≤ most * n) → pairs m n test + number m (λ j. test j n) + most ≤ most * suc n
    go (yes q) g =
        let y : number m (λ j. test j n) ≡ 0 = ap (λ (b : ℕ). number m (λ j. test j b)) (sym q) ∙ z in
        omega (arith, pairs-most most m n test f, mul-suc most n)
    go (no d) g = omega (arith, g (omega arith), f n, mul-suc most n)
