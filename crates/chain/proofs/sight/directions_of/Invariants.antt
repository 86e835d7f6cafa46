-- The directions of the stars passed stand at the front, and zeros behind them.
use Rattle.std.proofs.Common.{◌≡◌, ◌++◌, ◌-◌, ◌*◌, take, replicate, pos}
use Rattle.chain.specs.Sight.{directions_of}
use Rattle.chain.proofs.sight.directions_of.Given as goal

abbrev pub invariant-loop-k : goal.invariant-loop-k
invariant-loop-k l = l.numbers ≡ directions_of l.settings (take l.k l.stars) ++ replicate (24 - 3 * l.k) (pos 0)
