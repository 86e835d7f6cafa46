-- How the numbers of some bytes and of those behind them are joined, and which bytes decide. Assumes nothing.
use Rattle.std.specs.Prelude.{List, ◌≡◌, refl, ℕ, zero, suc, ◌+◌, ◌*◌, ◌^◌, ◌<◌, get_or}
use Rattle.std.proofs.Common.{add-zero, add-suc, mul_assoc, arith}
use Rattle.std.proofs.Math.Nat.{pow-succ'}
use Rattle.words.specs.Number.{number_at}

-- one byte
pub number-one : (bytes : List ℕ) (at : ℕ) → number_at bytes at 1 ≡ get_or bytes at 0
unfolding number_at
number-one bytes at = rw add-zero (omega arith)

-- m bytes and the n behind them
pub number-join : (bytes : List ℕ) (at m n : ℕ) → number_at bytes at (m + n) ≡ 256 ^ n * number_at bytes at m + number_at bytes (at + m) n
unfolding number_at
number-join bytes at m zero = rw add-zero (omega arith)
number-join bytes at m (suc n) =
    let e : at + (m + n) ≡ at + m + n = omega arith in
    let i = number-join bytes at m n in
    rw (add-suc, pow-succ', mul_assoc, e) (omega arith)

-- the bytes that are read alone decide
pub number_same : (xs ys : List ℕ) (at to n : ℕ) → ((k : ℕ) → k < n → get_or xs (at + k) 0 ≡ get_or ys (to + k) 0) → number_at xs at n ≡ number_at ys to n
unfolding number_at
number_same xs ys at to zero h = refl
number_same xs ys at to (suc n) h = omega (arith, number_same xs ys at to n (λ k l. h k (omega arith)), h n (omega arith))

-- n bytes make a number below 256^n
pub number-most : (bytes : List ℕ) (at n : ℕ) → ((k : ℕ) → get_or bytes k 0 < 256) → number_at bytes at n < 256 ^ n
unfolding number_at
number-most bytes at zero h = omega arith
number-most bytes at (suc n) h = rw pow-succ' (omega (arith, number-most bytes at n h, h (at + n)))
