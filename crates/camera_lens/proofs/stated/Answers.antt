-- The code has the focal length of no kind, 0, by its bits. Assumes nothing.
use Rattle.std.proofs.Common.{◌≡◌, sym, refl, ◌∙◌, rules}
use Rattle.std.specs.Float.{binary64}
use Rattle.std.specs.Float.Ieee.{of_bits}
use Rattle.camera_lens.specs.declared.Lens.TheVariants.{Pixels}
use Rattle.camera_lens.specs.Stated.{none}
use Rattle.camera_lens.specs.StatedLaws.{by-millimetres, by-pixels, by-none}
use Rattle.camera_lens.proofs.stated.Goals as goal

none_is : Pixels (of_bits binary64 0) ≡ none
unfolding of_bits
none_is = refl

pub returns-in-0 : goal.returns-in-0
returns-in-0 c = sym (by-millimetres c.args.kind c.args.first c.args.second c.in-0.is)

pub returns-in-1 : goal.returns-in-1
returns-in-1 c = sym (by-pixels c.args.kind c.args.first c.args.second c.in-1.is)

pub returns-in_default : goal.returns-in_default
returns-in_default c = none_is ∙ sym (by-none c.args.kind c.args.first c.args.second (search rules) (search rules))
