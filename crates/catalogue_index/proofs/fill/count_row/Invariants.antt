-- The count is that of the pairs with the first a stars.
use Rattle.std.proofs.Common.{◌≡◌, length}
use Rattle.catalogue_index.specs.Index.{collected, entry_of}
use Rattle.catalogue_index.proofs.fill.count_row.Given as goal

abbrev pub invariant-loop-a : goal.invariant-loop-a
invariant-loop-a l = l.count ≡ length (collected l.a (entry_of l.pairs.stars.now l.pairs.floor l.b))
