-- To the bit: what is said of the bits of a float that an operation gives, and that it says all. Assumes nothing.
use Rattle.std.specs.Prelude.{Bool, true, false, ◌≡◌, refl, T, Float}
use Rattle.std.proofs.Common.{true≢false, sym, ap, ◌∙◌}
use Rattle.std.specs.Float.{nan, inf, fin, binary64}
use Rattle.std.specs.Float.Ieee.{fits, is_nan, to_bits, of_bits}
use Rattle.std.specs.Float.Ieee.Bits.{of_bits-to_bits}

-- r is x to the bit: it is not a number exactly where x is none, and else it has the same 64 bits. An infinity counts as a number here, and -0 has other bits
-- than 0.
pub record ToTheBit (r x : Float) : Type 0 where
  pub none : is_nan r ≡ is_nan x
  pub bits : is_nan x ≡ false → to_bits binary64 r ≡ to_bits binary64 x

-- equal values are so
pub equal-bits : {r x : Float} → r ≡ x → ToTheBit r x
equal-bits e = record { none = ap is_nan e; bits = λ _. ap (to_bits binary64) e }

-- there is one value that is not a number
pub nan_is : (x : Float) → is_nan x ≡ true → x ≡ nan
unfolding is_nan
nan_is nan e = refl
nan_is (inf s) e = absurd (true≢false (sym e))
nan_is (fin s m d) e = absurd (true≢false (sym e))

-- and of two floats of 64 bits that are the same to the bit the values are equal
pub bits-equal : {r x : Float} → T (fits binary64 r) → T (fits binary64 x) → ToTheBit r x → r ≡ x
bits-equal {r} {x} f g h = by (is_nan x) refl
  where
    by : (b : Bool) → is_nan x ≡ b → r ≡ x
    by true e = nan_is r (h.none ∙ e) ∙ sym (nan_is x e)
    by false e = sym (of_bits-to_bits binary64 r f) ∙ ap (of_bits binary64) (h.bits e) ∙ of_bits-to_bits binary64 x g
