-- No other live guide passed has the star in its box.
use Rattle.std.proofs.Common.{◌≡◌, ℕ, ◌<◌, ◌&&◌, not, false, eqb}
use Rattle.guider_rule.specs.Guider.{claims}
use Rattle.guider.proofs.boxes.is_shared.Given as goal

abbrev pub invariant-loop-j : goal.invariant-loop-j
invariant-loop-j l = (m : ℕ) → m < l.j → not (eqb m l.i) && claims l.fn.boxes.guider l.star m ≡ false
