-- The index's room is as long as it is said to be, by the law of a repeated number and not by counting.
use Rattle.std.proofs.Common.{sym, ℕ}
use Rattle.std.proofs.Math.ListN.{length-replicate}
use Rattle.desk.proofs.index.Goals as goal

pub slice_bounds-make-end-2 : goal.slice_bounds-make-end-2
slice_bounds-make-end-2 g c = sym (length-replicate {A = ℕ} 1569792 0)
