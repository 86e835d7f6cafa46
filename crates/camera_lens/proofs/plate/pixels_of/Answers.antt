-- The literal is 1,000 as a float. Assumes nothing.
use Rattle.std.proofs.Common.{◌≡◌, pos, sym, refl, ap, ◌∙◌}
use Rattle.std.specs.Prelude.{Float}
use Rattle.std.specs.Float.{binary64}
use Rattle.std.specs.Float.Ieee.{of_bits, of_int, round, mul, div}
use Rattle.camera_lens.specs.declared.Lens.{Lens}
use Rattle.camera_lens.specs.declared.Lens.TheVariants.{Millimetres}
use Rattle.camera_lens.specs.Lens.{pixels_of}
use Rattle.camera_lens.proofs.plate.pixels_of.Goals as goal

literal : of_bits binary64 0x408f_4000_0000_0000 ≡ of_int binary64 (pos 1000)
unfolding of_bits of_int round
literal = refl

by-plate : {l : Lens} (x y : Float) → l ≡ Millimetres x y → div binary64 (mul binary64 x (of_bits binary64 0x408f_4000_0000_0000)) y ≡ pixels_of l
by-plate x y e = ap (λ (k : Float). div binary64 (mul binary64 x k) y) literal ∙ sym (ap (λ (m : Lens). pixels_of m) e)

pub returns-in-Millimetres : goal.returns-in-Millimetres
returns-in-Millimetres c = let g = c.in-Millimetres in by-plate g.length g.pitch g.is
