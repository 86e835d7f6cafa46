-- Where no sample is too large, the first is past the end.
use Rattle.std.proofs.Common.{sym, arith}
use Rattle.frame_list.specs.input.InputLaws.{over-end}
use Rattle.frame_list.proofs.Over.{position-is}
use Rattle.frame_list.proofs.input.first_over.Goals as goal

pub returns-then-all_fit : goal.returns-then-all_fit
returns-then-all_fit c = sym (over-end c.args.samples.now (λ k h. omega (arith, c.largest-all_fit.ensures k h)))

pub returns : goal.returns
returns c = rw c.look_for_over.ensures (position-is c.args.samples.now)
