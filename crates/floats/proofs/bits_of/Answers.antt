-- `floats::bits_of`: there is one value that is not a number, and its bits are those. Assumes nothing.
use Rattle.std.specs.Prelude.{◌≡◌, refl}
use Rattle.std.proofs.Common.{sym, ap, ◌∙◌}
use Rattle.std.specs.Float.{binary64, nan}
use Rattle.std.specs.Float.Ieee.{to_bits}
use Rattle.floats.specs.Bits.{nan_is}
use Rattle.floats.proofs.bits_of.Goals as goal

nan-bits : to_bits binary64 nan ≡ 0x7ff8_0000_0000_0000
unfolding to_bits
nan-bits = refl

pub returns-then-is_none : goal.returns-then-is_none
returns-then-is_none c = sym (ap (to_bits binary64) (nan_is c.args.x (sym c.is_nan-is_none.ensures.value ∙ c.if-is_none.true)) ∙ nan-bits)
