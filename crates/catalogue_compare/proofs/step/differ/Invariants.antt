-- The first k words behind the identities are the same. Assumes nothing.
use Rattle.std.proofs.Common.{◌≡◌, ℕ, ◌<◌}
use Rattle.catalogue_compare.specs.Changes.{field_of}
use Rattle.catalogue_compare.proofs.step.differ.Given as goal

abbrev pub invariant-loop-k : goal.invariant-loop-k
invariant-loop-k l = (n : ℕ) → n < l.k → field_of l.first l.i n ≡ field_of l.second l.j n
