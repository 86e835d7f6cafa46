-- So many are in the list of all identities that are passed; each step passes a record. Assumes nothing.
use Rattle.std.proofs.Common.{◌+◌, ◌-◌}
use Rattle.catalogue.specs.Format.{records_in}
use Rattle.catalogue_compare.specs.Walk.{Counted}
use Rattle.catalogue_compare.proofs.walk.count.Given as goal

abbrev pub invariant-loop-s : goal.invariant-loop-s
invariant-loop-s l = Counted l.first l.second l.i l.j l.found

abbrev pub decreases-loop-s : goal.decreases-loop-s
decreases-loop-s l = records_in l.first + records_in l.second - (l.i + l.j)
