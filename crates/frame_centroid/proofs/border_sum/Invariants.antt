-- The sum is that over the entries passed.
use Rattle.std.specs.Prelude.{◌≡◌, ◌≤◌, ◌*◌}
use Rattle.frame_centroid.specs.Sums.{sum_below}
use Rattle.frame_centroid.specs.Border.{sampled}
use Rattle.frame_centroid.proofs.border_sum.Given as goal

abbrev pub invariant-loop-r : goal.invariant-loop-r
invariant-loop-r l =
    let p = l.window.middle in
    (l.sum ≡ sum_below l.r-index (sampled p.frame.samples.now p.frame.width p.place.row p.place.column)) × (l.sum ≤ 65535 * l.r-index)
