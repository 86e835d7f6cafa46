-- Of the first i records those that are kept stand at the front. Assumes nothing.
use Rattle.catalogue_cut.specs.marks.Number.{numbers_of}
use Rattle.catalogue_cut.specs.Shifted.{Moved}
use Rattle.catalogue_cut.proofs.shift.forward.Given as goal

abbrev pub invariant-loop-i : goal.invariant-loop-i
invariant-loop-i l = Moved l.initial.bytes (numbers_of l.marks) l.i l.kept l.bytes
