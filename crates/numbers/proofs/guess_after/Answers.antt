-- `numbers::guess_after`: that a word holds each sum, and that no guess is 0, are laws of the steps and need no code. Assumes nothing.
use Rattle.std.proofs.Common.{◌∙◌, ℕ, ap, add-one, arith}
use Rattle.numbers.specs.Steps.{step, steps}
use Rattle.numbers.proofs.Word.{root-positive, steps-near, sum-after}
use Rattle.numbers.proofs.guess_after.Goals as goal

pub loop-init : goal.loop-init
unfolding steps
loop-init c = c.first_guess-x.ensures

pub nonzero_div-x : goal.nonzero_div-x
nonzero_div-x c =
    omega (arith, c.loop.invariant, root-positive c.requires c.ranges.n.fits, (steps-near c.requires c.ranges.n.fits c.loop.counter).above)

pub overflow_add-x : goal.overflow_add-x
overflow_add-x c = rw c.loop.invariant (record { fits = sum-after c.requires c.ranges.n.fits c.loop.counter })

pub loop-preserved : goal.loop-preserved
unfolding steps
loop-preserved c = ap (λ (x : ℕ). step c.args.n x) c.loop.invariant ∙ rw add-one
