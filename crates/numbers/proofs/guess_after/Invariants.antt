-- The loop of `numbers::guess_after`: as many steps were made as passes are behind.
use Rattle.std.proofs.Common.{◌≡◌}
use Rattle.numbers.specs.Steps.{guess, steps}
use Rattle.numbers.proofs.guess_after.Given as goal

abbrev pub invariant-loop : goal.invariant-loop
invariant-loop l = l.x ≡ steps l.counter l.n (guess l.n)
