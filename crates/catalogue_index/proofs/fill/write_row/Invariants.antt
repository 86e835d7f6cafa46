-- The records of the pairs with the first a stars stand behind those before.
use Rattle.std.proofs.Common.{◌≡◌, ◌+◌, length}
use Rattle.catalogue_index.specs.Grown.{Grown}
use Rattle.catalogue_index.specs.Index.{collected, entry_of}
use Rattle.catalogue_index.proofs.fill.write_row.Given as goal

abbrev pub invariant-loop-a : goal.invariant-loop-a
invariant-loop-a l =
    let done = collected l.a (entry_of l.pairs.stars.now l.pairs.floor l.b) in
    record { place : l.next ≡ l.at + length done; grown : Grown l.at done l.initial.room l.room }
