-- After i turns the sum is that of the first i numbers.
use Rattle.std.proofs.Common.{◌≡◌, ◌<◌}
use Rattle.playback.specs.Sum.{sum_to}
use Rattle.playback.proofs.print.checksum.Given as goal

abbrev pub invariant-loop-sample : goal.invariant-loop-sample
invariant-loop-sample l = (l.sum < 1000003) × (l.sum ≡ sum_to l.room l.sample-index)
