-- The first i records keep their rule, and the last key is that of the one before.
use Rattle.std.proofs.Common.{◌≡◌, ℕ, ◌<◌}
use Rattle.catalogue_index.specs.records.Format.{key_from}
use Rattle.catalogue_index.specs.Check.{RecordOk, key_before}
use Rattle.catalogue_index.proofs.test.is_index.Given as goal

abbrev pub invariant-loop-i : goal.invariant-loop-i
invariant-loop-i l = record {
  ok : (k : ℕ) → k < l.i → RecordOk l.pairs.stars.now l.pairs.floor l.index k;
  before : key_from l.before.high l.before.low ≡ key_before l.index l.i;
}
