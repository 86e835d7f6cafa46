-- The exponent by the length of a number in bits, and the power that it gives, which a word holds. Assumes nothing.
use Rattle.std.proofs.Common.{◌≡◌, ◌∙◌, ℕ, ◌+◌, ◌-◌, ◌*◌, ◌%◌, ◌^◌, ◌<◌, ◌≤◌, arith, lit<, pos, lt_of_lt_of_le, shr_lt, pow_mono, le-div_iff_mul-le, pow_pos, w64, to_z}
use lib.Count.{count_leading_zeros}
use lib.Pow.{shl_exact, pow-add, pow-lt}
use Rattle.std.proofs.lemmas.Nat.{leading_length}
use mir.ValLaws.{to_z_pos}
use Rattle.attitude.specs.Scale.{shift_of}
use Rattle.attitude.specs.Shift.{Shift, shift-of}

-- how far a number of n bits is to be shifted: by what lies beyond 30 bits
by-length : (m n : ℕ) → m < 2 ^ n → 2 ^ n ≤ 2 * m + 1 → Shift m (n - 30)
by-length m n h l =
    record {
      small = shr_lt 30 (n - 30) (lt_of_lt_of_le h (pow_mono {i = n} {j = 30 + (n - 30)} (omega arith)));
      least = λ j below.
          (le-div_iff_mul-le (pow_pos j)).1
          (omega (arith, pow-add 2 30 j, pow-add 2 1 (30 + j), pow_mono {i = 1 + (30 + j)} {j = n} (omega arith)));
    }

pub shift_by_length : (m : ℕ) → m < 2 ^ 64 → (64 - count_leading_zeros 64 m) - 30 ≡ shift_of m
shift_by_length m h =
    let (n, e, small, least) = leading_length 64 m h in
    let same : 64 - count_leading_zeros 64 m ≡ n = omega arith in
    rw same (shift-of h (by-length m n small least))

-- the power, as it is shifted out
pub power_held : (k : ℕ) → k < 63 → to_z w64 ((1 * 2 ^ k) % 2 ^ 64) ≡ pos (2 ^ k)
power_held k h =
    let one : 1 * 2 ^ k ≡ 2 ^ k = omega arith in
    let held : (1 * 2 ^ k) % 2 ^ 64 ≡ 2 ^ k = shl_exact {a = 1} 1 k 64 (lit< tt) (omega arith) ∙ one in
    let small : 2 ^ k < 2 ^ 63 = pow-lt h in
    rw held (to_z_pos w64 _ small)
