-- `floats::float_of`: without its sign's bit a NaN's pattern lies above an infinity's. Assumes nothing.
use Rattle.std.specs.Prelude.{◌≡◌, refl, Bool, false, not, ℕ, ◌%◌, ◌<◌, ◌≤◌, T}
use Rattle.std.proofs.Common.{sym, ◌∙◌, subst, lt-ltb, le-ltb}
use Rattle.std.specs.Float.{binary64, nan}
use Rattle.std.specs.Float.Ieee.{nan_bits, of_bits}
use Rattle.std.specs.Float.Ieee.Bits.{nan_bits_is, nan_bits_above}
use Rattle.floats.specs.Bits.{nan_is}
use Rattle.floats.proofs.float_of.Goals as goal

made : of_bits binary64 0x7ff8_0000_0000_0000 ≡ nan
unfolding of_bits
made = refl

above : (n : ℕ) → 0x7ff0_0000_0000_0000 < n % 0x8000_0000_0000_0000 → of_bits binary64 n ≡ nan
above n h = nan_is (of_bits binary64 n) (sym (nan_bits_is binary64 n) ∙ nan_bits_above binary64 n ∙ lt-ltb 0x7ff0_0000_0000_0000 (n % 0x8000_0000_0000_0000) h)

at_most : (n : ℕ) → n % 0x8000_0000_0000_0000 ≤ 0x7ff0_0000_0000_0000 → nan_bits binary64 n ≡ false
at_most n h = nan_bits_above binary64 n ∙ le-ltb 0x7ff0_0000_0000_0000 (n % 0x8000_0000_0000_0000) h

pub returns-then-is_none : goal.returns-then-is_none
returns-then-is_none c = made ∙ sym (above c.args.bits c.if-is_none.true)

pub float_from_bits-result : goal.float_from_bits-result
float_from_bits-result c = subst (λ (b : Bool). T (not b)) (sym (at_most c.args.bits c.if-is_none.false)) tt
