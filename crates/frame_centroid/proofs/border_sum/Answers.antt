-- The constant is the table of the law, entry by entry.
use Rattle.std.proofs.Common.{◌≡◌, ℕ, ap, ◌∙◌, refl, arith}
use Rattle.frame_centroid.specs.Sums.{sum_below, sum-next}
use Rattle.frame_centroid.specs.Border.{border, sampled, table-sum}
use Rattle.frame_centroid.proofs.border_sum.Goals as goal

pub loop-r-init : goal.loop-r-init
unfolding sum_below
loop-r-init c = (refl, omega arith)

pub loop-r-preserved : goal.loop-r-preserved
unfolding border
loop-r-preserved c =
    let p = c.args.window.middle in
    let g = sampled p.frame.samples.now p.frame.width p.place.row p.place.column in
    let q : c.sample.result ≡ g c.loop-r.r-index = c.sample.ensures in
    let n = sum-next c.loop-r.r-index g in
    (omega arith, omega arith)

pub returns : goal.returns
returns c =
    let p = c.args.window.middle in
    let g = sampled p.frame.samples.now p.frame.width p.place.row p.place.column in
    let e : c.loop-r.r-index ≡ 24 = omega arith in
    (c.loop-r.invariant.0 ∙ ap (λ (k : ℕ). sum_below k g) e ∙ table-sum _ _ _ _, omega arith)
