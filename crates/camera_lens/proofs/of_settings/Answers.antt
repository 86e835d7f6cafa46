-- The literal is 256 as a float. Assumes nothing.
use Rattle.std.proofs.Common.{◌≡◌, pos, refl}
use Rattle.std.specs.Float.{binary64}
use Rattle.std.specs.Float.Ieee.{of_bits, of_int, round, div}
use Rattle.camera_lens.specs.declared.Lens.TheVariants.{Pixels}
use Rattle.camera_lens.specs.Stated.{settings_lens}
use Rattle.camera_lens.proofs.of_settings.Goals as goal

literal : of_bits binary64 0x4070_0000_0000_0000 ≡ of_int binary64 (pos 256)
unfolding of_bits of_int round
literal = refl

pub returns : goal.returns
unfolding settings_lens
returns c = λ i. Pixels (div binary64 (of_int binary64 (pos c.args.focal)) (literal i))
