-- What a direction cosine is: the casts lose nothing, so that the entry over 10^9 is rounded once. Assumes nothing.
use Rattle.std.specs.Prelude.{false, ◌≡◌, refl, ◌^◌, ◌≤◌, T, ℤ, pos, nat_abs}
use Rattle.std.proofs.Common.{le_trans, lit≤, lit<}
use Rattle.std.specs.Float.{fin, binary64}
use Rattle.std.specs.Float.Ieee.{of_int, in_float, to_signed, round, div}
use Rattle.floats.specs.Whole.{negative, whole_float, whole_back}
use Rattle.floats.proofs.Whole.{whole-quotient}
use Rattle.numbers.specs.Within.{Within}
use Rattle.attitude_gimbal.specs.Cosines.{cosine_of}

module _ (z : ℤ) (h : Within 8000000000 z) where
  -- far below 2^53
  small : nat_abs z ≤ 2 ^ 53
  small = le_trans h.within (lit≤ tt)

  -- an entry is a float
  pub entry-float : T (in_float binary64 z)
  entry-float = whole_float z small

  -- which, cast back, is the entry: nothing is lost
  pub cast-back : to_signed 63 (of_int binary64 z) ≡ z
  cast-back = whole_back z small

  -- the cosine is the fraction entry / 10^9, with the entry's sign, rounded once
  pub rounded-once : cosine_of z ≡ round binary64 (negative z) (nat_abs z) 1000000000
  unfolding cosine_of
  rounded-once = whole-quotient z 1000000000 small (lit≤ tt) (lit< tt)

-- that of 0 is 0, and not -0
pub zero-cosine : cosine_of (pos 0) ≡ fin false 0 (pos 0)
unfolding cosine_of div of_int round
zero-cosine = refl
