-- The records of the first b stars' pairs stand at the front.
use Rattle.std.proofs.Common.{◌≡◌, ◌+◌, length}
use Rattle.catalogue_index.specs.Grown.{Grown}
use Rattle.catalogue_index.specs.Index.{collected, row_of}
use Rattle.catalogue_index.proofs.fill.write.Given as goal

abbrev pub invariant-loop-b : goal.invariant-loop-b
invariant-loop-b l =
    let done = collected l.b (row_of l.pairs.stars.now l.pairs.floor) in
    record { place : l.next ≡ 0 + length done; grown : Grown 0 done l.initial.room l.room }
