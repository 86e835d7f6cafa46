-- Each room is as long as it is said to be, by the law of a repeated number and not by counting.
use Rattle.std.proofs.Common.{sym, ℕ}
use Rattle.std.proofs.Math.ListN.{length-replicate}
use Rattle.recorded.proofs.play_file.Goals as goal

pub slice_bounds-play-end : goal.slice_bounds-play-end
slice_bounds-play-end g c = sym (length-replicate {A = ℕ} 2100000 0)

pub slice_bounds-play-end-2 : goal.slice_bounds-play-end-2
slice_bounds-play-end-2 g c = sym (length-replicate {A = ℕ} 1050000 0)

pub slice_bounds-play-end-3 : goal.slice_bounds-play-end-3
slice_bounds-play-end-3 g c = sym (length-replicate {A = ℕ} 10400 0)

pub slice_bounds-play-end-4 : goal.slice_bounds-play-end-4
slice_bounds-play-end-4 g c = sym (length-replicate {A = ℕ} 1570000 0)

pub slice_bounds-play-end-5 : goal.slice_bounds-play-end-5
slice_bounds-play-end-5 g c = sym (length-replicate {A = ℕ} 4200 0)
