-- After i turns the sum is that of the first i numbers.
use Rattle.std.proofs.Common.{◌≡◌, ◌<◌}
use Rattle.playback.specs.Sum.{sum_to}
use Rattle.playback.proofs.print.bytes_checksum.Given as goal

abbrev pub invariant-loop-byte : goal.invariant-loop-byte
invariant-loop-byte l = (l.sum < 1000003) × (l.sum ≡ sum_to l.room l.byte-index)
