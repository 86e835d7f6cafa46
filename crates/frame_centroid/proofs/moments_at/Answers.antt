-- Each row and each place of it adds its weights.
use Rattle.std.proofs.Common.{◌≡◌, ℕ, ◌*◌, ap, ◌∙◌, arith, rules}
use Rattle.frame_centroid.specs.Sums.{sum_below, sum-next, times-small}
use Rattle.frame_centroid.specs.Centroid.{brightness}
use Rattle.frame_centroid.specs.Moments.{moment_x, moment_y}
use Rattle.frame_centroid.proofs.Inner.{plain, by-column, by_row}
use Rattle.frame_centroid.proofs.moments_at.Goals as goal

pub loop-i-init : goal.loop-i-init
unfolding sum_below
loop-i-init c = search rules

pub loop-j-init : goal.loop-j-init
unfolding sum_below
loop-j-init c = search rules

pub loop-j-preserved : goal.loop-j-preserved
loop-j-preserved c =
    let p = c.args.window.middle in
    let s = p.frame.samples.now in
    let i = c.loop-i.i in
    let j = c.loop-j.j in
    let m = c.weigh-weight.result in
    let b = sum-next j (plain s p.frame.width p.place.row p.place.column i) in
    let x = sum-next j (by-column s p.frame.width p.place.row p.place.column i) in
    let y = sum-next j (by_row s p.frame.width p.place.row p.place.column i) in
    let u = ap (λ (t : ℕ). t * j) c.weigh-weight.ensures.0 in
    let v = ap (λ (t : ℕ). t * i) c.weigh-weight.ensures.0 in
    let k = times-small m j (omega arith) in
    let l = times-small m i (omega arith) in
    record { brightness = omega arith; across = omega arith; down = omega arith; small = omega arith; across_small = omega arith; down_small = omega arith }

pub loop-i-preserved : goal.loop-i-preserved
loop-i-preserved c =
    let p = c.args.window.middle in
    let s = p.frame.samples.now in
    let i = c.loop-i.i in
    let e : c.loop-j.j ≡ 5 = omega arith in
    let b = sum-next i (λ k. sum_below 5 (plain s p.frame.width p.place.row p.place.column k)) in
    let x = sum-next i (λ k. sum_below 5 (by-column s p.frame.width p.place.row p.place.column k)) in
    let y = sum-next i (λ k. sum_below 5 (by_row s p.frame.width p.place.row p.place.column k)) in
    let u = ap (λ (j : ℕ). sum_below j (plain s p.frame.width p.place.row p.place.column i)) e in
    let v = ap (λ (j : ℕ). sum_below j (by-column s p.frame.width p.place.row p.place.column i)) e in
    let t = ap (λ (j : ℕ). sum_below j (by_row s p.frame.width p.place.row p.place.column i)) e in
    record { brightness = omega arith; across = omega arith; down = omega arith; small = omega arith; across_small = omega arith; down_small = omega arith }

pub returns : goal.returns
unfolding brightness moment_x moment_y
returns c =
    let p = c.args.window.middle in
    let s = p.frame.samples.now in
    let e : c.loop-i.i ≡ 5 = omega arith in
    let n = c.loop-i.invariant in
    record {
      bright = n.brightness ∙ ap (λ (i : ℕ). sum_below i (λ k. sum_below 5 (plain s p.frame.width p.place.row p.place.column k))) e;
      across = n.across ∙ ap (λ (i : ℕ). sum_below i (λ k. sum_below 5 (by-column s p.frame.width p.place.row p.place.column k))) e;
      down = n.down ∙ ap (λ (i : ℕ). sum_below i (λ k. sum_below 5 (by_row s p.frame.width p.place.row p.place.column k))) e;
      small = omega arith;
      across-small = omega arith;
      down-small = omega arith;
    }
