-- No first star before place j makes a mirror image.
use Rattle.std.proofs.Common.{◌≡◌, ℕ, ◌<◌, false, get_or}
use Rattle.search_fit.specs.Fit.{mirrored_by}
use Rattle.search_fit.proofs.mirror.upright_beside.Given as goal

abbrev pub invariant-loop-j : goal.invariant-loop-j
invariant-loop-j l = (q : ℕ) → q < l.j → get_or l.look.chosen.now q 0 < l.look.count
    → mirrored_by l.look.stars.now l.turns q l.k l.i (get_or l.look.chosen.now q 0) l.second l.star ≡ false
