-- The three sums are those over the rows passed, and over the places passed in this row.
use Rattle.std.specs.Prelude.{◌≡◌, ◌≤◌, ◌+◌, ◌*◌}
use Rattle.frame_centroid.specs.Sums.{sum_below}
use Rattle.frame_centroid.proofs.Inner.{plain, by-column, by_row}
use Rattle.frame_centroid.proofs.moments_at.Given as goal

abbrev pub invariant-loop-i : goal.invariant-loop-i
invariant-loop-i l =
    let p = l.window.middle in
    let s = p.frame.samples.now in
    let w = p.frame.width in
    record {
      brightness : l.brightness ≡ sum_below l.i (λ k. sum_below 5 (plain s w p.place.row p.place.column k));
      across : l.across ≡ sum_below l.i (λ k. sum_below 5 (by-column s w p.place.row p.place.column k));
      down : l.down ≡ sum_below l.i (λ k. sum_below 5 (by_row s w p.place.row p.place.column k));
      small : l.brightness ≤ 65536 * 120 * l.i;
      across_small : l.across ≤ 4 * l.brightness;
      down_small : l.down ≤ 4 * l.brightness;
    }

abbrev pub invariant-loop-j : goal.invariant-loop-j
invariant-loop-j l =
    let p = l.window.middle in
    let s = p.frame.samples.now in
    let w = p.frame.width in
    record {
      brightness : l.brightness ≡ l.initial.brightness + sum_below l.j (plain s w p.place.row p.place.column l.i);
      across : l.across ≡ l.initial.across + sum_below l.j (by-column s w p.place.row p.place.column l.i);
      down : l.down ≡ l.initial.down + sum_below l.j (by_row s w p.place.row p.place.column l.i);
      small : l.brightness ≤ l.initial.brightness + 65536 * 24 * l.j;
      across_small : l.across + 4 * l.initial.brightness ≤ l.initial.across + 4 * l.brightness;
      down_small : l.down + 4 * l.initial.brightness ≤ l.initial.down + 4 * l.brightness;
    }
