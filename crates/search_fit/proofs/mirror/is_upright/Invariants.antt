-- No second star before place k, with any first, makes a mirror image.
use Rattle.std.proofs.Common.{◌≡◌, ℕ, ◌<◌, true, not, ltb, get_or}
use Rattle.lists.specs.Tests.{all, given}
use Rattle.search_fit.specs.Fit.{mirrored_by}
use Rattle.search_fit.proofs.mirror.is_upright.Given as goal

abbrev pub invariant-loop-k : goal.invariant-loop-k
invariant-loop-k l = (q : ℕ) → q < l.k → get_or l.look.chosen.now q 0 < l.look.count → all q (λ j. given (ltb (get_or l.look.chosen.now j 0) l.look.count)
    (not (mirrored_by l.look.stars.now l.turns j q l.i (get_or l.look.chosen.now j 0) (get_or l.look.chosen.now q 0) l.star))) ≡ true
