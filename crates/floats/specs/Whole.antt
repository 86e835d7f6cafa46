-- Whole numbers as floats: up to 2^53 each is a float, so that a cast loses nothing and a quotient is rounded once. Assumes nothing.
use Rattle.std.specs.Prelude.{Bool, true, false, ◌≡◌, ℕ, suc, ◌^◌, ◌≤◌, ◌<◌, T, ℤ, pos, negsuc, nat_abs}
use Rattle.std.proofs.Common.{le_trans, lt_of_le_of_lt, le→leb, lt→ltb, lit≤, lit<}
use Rattle.std.specs.Float.{binary64}
use Rattle.std.specs.Float.Ieee.{of_int, in_float, to_signed, round, div}
use Rattle.std.specs.Float.Ieee.Exact.{HasValue}
use Rattle.std.specs.Float.Ieee.Back.{round_whole, positive_back, negative_back}
use Rattle.floats.specs.Quotient.{quotient}

-- the sign of the float: that of the number, and 0 is not negative
abbrev pub negative : ℤ → Bool
negative (pos n) = false
negative (negsuc n) = true

-- what the language asks of a cast
pub whole_float : (z : ℤ) → nat_abs z ≤ 2 ^ 53 → T (in_float binary64 z)
unfolding in_float
whole_float (pos n) h = le→leb n (2 ^ 53) h
whole_float (negsuc n) h = lt→ltb n (2 ^ 53) h

-- the float has the number's own value and sign
pub whole-value : (z : ℤ) → nat_abs z ≤ 2 ^ 53 → HasValue (of_int binary64 z) (negative z) (nat_abs z) 1
unfolding of_int
whole-value (pos n) h = round_whole binary64 false n h
whole-value (negsuc n) h = round_whole binary64 true (suc n) h

-- and cast back it is the number: nothing is lost
pub whole_back : (z : ℤ) → nat_abs z ≤ 2 ^ 53 → to_signed 63 (of_int binary64 z) ≡ z
whole_back (pos n) h = (positive_back binary64 63 n (whole_float (pos n) h) (lt_of_le_of_lt h (lit< tt))).1
whole_back (negsuc n) h = (negative_back binary64 63 n (whole_float (negsuc n) h) (le_trans h (lit≤ tt))).1
