-- Whole numbers as floats: up to 2^53 each is a float, so that a cast loses nothing and a quotient is rounded once. Assumes nothing.
use Rattle.std.specs.Prelude.{Bool, true, false, ◌≡◌, ℕ, suc, ◌^◌, ◌≤◌, ◌<◌, T, ℤ, pos, negsuc, nat_abs}
use Rattle.std.proofs.Common.{le_trans, lt_of_le_of_lt, le→leb, lt→ltb, lit≤, lit<}
use Rattle.std.specs.Float.{binary64}
use Rattle.std.specs.Float.Ieee.{of_int, in_float, to_signed, round, div}
use Rattle.std.specs.Float.Ieee.Exact.{HasValue}
use Rattle.std.specs.Float.Ieee.Back.{round_whole, positive_back, negative_back}
use Rattle.floats.specs.Quotient.{quotient}
use Rattle.floats.specs.Whole.{negative, whole-value}

-- so the quotient of two of them is that of the numbers, rounded once
pub whole-quotient : (z : ℤ) (n : ℕ) → nat_abs z ≤ 2 ^ 53 → n ≤ 2 ^ 53 → 0 < n
    → div binary64 (of_int binary64 z) (of_int binary64 (pos n)) ≡ round binary64 (negative z) (nat_abs z) n
whole-quotient z n h k p = quotient binary64 (of_int binary64 z) (of_int binary64 (pos n)) (negative z) (nat_abs z) n (whole-value z h) (whole-value (pos n) k) p
