-- A part of the buffer over an earlier one. Assumes nothing.
use Rattle.std.proofs.Common.{◌∙◌}
use Rattle.catalogue_cut.proofs.Shifted.{copied-part}
use Rattle.catalogue_cut.proofs.shift.copy.Goals as goal

pub returns : goal.returns
returns c = c.copy_within.ensures.after ∙ copied-part c.args.bytes.now c.args.i c.args.to c.requires.0 c.requires.1
