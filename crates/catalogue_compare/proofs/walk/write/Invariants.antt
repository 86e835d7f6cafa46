-- The list so far stands at the front of the room; each step passes a record. Assumes nothing.
use Rattle.std.proofs.Common.{◌+◌, ◌-◌}
use Rattle.catalogue.specs.Format.{records_in}
use Rattle.catalogue_compare.specs.Written.{Written}
use Rattle.catalogue_compare.proofs.walk.write.Given as goal

abbrev pub invariant-loop-s : goal.invariant-loop-s
invariant-loop-s l = Written l.first l.second l.i l.j l.found l.initial.room l.room

abbrev pub decreases-loop-s : goal.decreases-loop-s
decreases-loop-s l = records_in l.first + records_in l.second - (l.i + l.j)
