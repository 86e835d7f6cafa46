use Rattle.std.proofs.Common.{refl, sym, ◌∙◌, ◌+◌, ◌*◌, ◌%◌, arith}
use Rattle.playback.specs.Sum.{sum_to, sum-next}
use Rattle.playback.proofs.print.bytes_checksum.Goals as goal

pub loop-byte-init : goal.loop-byte-init
unfolding sum_to
loop-byte-init c = (omega arith, refl)

pub loop-byte-preserved : goal.loop-byte-preserved
loop-byte-preserved c = (
  omega arith,
  (λ k. (c.loop-byte.invariant.1 k * 31 + c.from.ensures k + 1) % 1000003) ∙ sym (sum-next c.args.room.now c.loop-byte.byte-index),
)
