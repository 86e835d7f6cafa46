use Rattle.std.proofs.Common.{refl, sym, ◌∙◌, ◌+◌, ◌*◌, ◌%◌, arith}
use Rattle.playback.specs.Sum.{sum_to, sum-next}
use Rattle.playback.proofs.print.checksum.Goals as goal

pub loop-sample-init : goal.loop-sample-init
unfolding sum_to
loop-sample-init c = (omega arith, refl)

pub loop-sample-preserved : goal.loop-sample-preserved
loop-sample-preserved c = (
  omega arith,
  (λ k. (c.loop-sample.invariant.1 k * 31 + c.from.ensures k + 1) % 1000003) ∙ sym (sum-next c.args.room.now c.loop-sample.sample-index),
)
