-- `ranking_by_index::votes::by_index::first_from`: the dot products do not fall, so that the middle record tells of a half. Assumes nothing.
use Rattle.std.specs.Prelude.{◌+◌, ◌-◌, ◌/◌}
use Rattle.std.proofs.Common.{arith}
use Rattle.ranking_by_index.proofs.votes.by_index.first_from.Goals as goal

pub loop-from-preserved-then-high-lower : goal.loop-from-preserved-then-high-lower
loop-from-preserved-then-high-lower c =
    let l = c.loop-from in
    let m = l.from + (l.to - l.from) / 2 in (
      omega arith,
      l.invariant.1,
      (λ k h. omega (arith, c.requires.rising k m (omega arith) (omega arith), c.high.ensures, c.if-high-lower.true)),
      l.invariant.3,
    )

pub loop-from-preserved : goal.loop-from-preserved
loop-from-preserved c =
    let l = c.loop-from in
    let m = l.from + (l.to - l.from) / 2 in
    (omega arith, omega arith, l.invariant.2, (λ k h i. omega (arith, c.requires.rising m k h i, c.high.ensures, c.if-high-lower.false)))
