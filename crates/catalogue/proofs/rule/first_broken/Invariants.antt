-- Assumes nothing.
use Rattle.std.proofs.Common.{◌≡◌, ℕ, ◌<◌, false}
use Rattle.std.proofs.Math.Bool.{not}
use Rattle.catalogue.specs.Rule.{record_ok}
use Rattle.catalogue.proofs.rule.first_broken.Given as goal

abbrev pub invariant-loop-i : goal.invariant-loop-i
invariant-loop-i l = (k : ℕ) → k < l.i → not (record_ok l.bytes k) ≡ false
