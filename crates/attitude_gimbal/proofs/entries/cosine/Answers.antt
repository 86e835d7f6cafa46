-- The float reads the entry back from its bits, and the literal is 10^9 as a float. Assumes nothing.
use Rattle.std.proofs.Common.{◌≡◌, pos, refl, w64}
use Rattle.std.specs.Float.{binary64}
use Rattle.std.specs.Float.Ieee.{of_int, of_bits, round, div}
use Rattle.numbers.specs.Num.{arg, back}
use Rattle.attitude_gimbal.specs.Cosines.{cosine_of}
use Rattle.attitude_gimbal.proofs.entries.cosine.Goals as goal

literal : of_bits binary64 0x41cd_cd65_0000_0000 ≡ of_int binary64 (pos 1000000000)
unfolding of_bits of_int round
literal = refl

pub returns : goal.returns
unfolding cosine_of
returns c = λ i. div binary64 (of_int binary64 (back (arg {w = w64} c.requires tt) i)) (literal i)
