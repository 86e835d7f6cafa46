-- The number is that of the first b stars' pairs.
use Rattle.std.proofs.Common.{◌≡◌, length}
use Rattle.catalogue_index.specs.Index.{collected, row_of}
use Rattle.catalogue_index.proofs.fill.count.Given as goal

abbrev pub invariant-loop-b : goal.invariant-loop-b
invariant-loop-b l = l.found ≡ length (collected l.b (row_of l.pairs.stars.now l.pairs.floor))
