-- No pixel of the rows passed, and none passed in this row, beats it.
use Rattle.std.specs.Prelude.{◌≡◌, None, false, ℕ, ◌-◌, ◌≤◌, ◌<◌}
use Rattle.frame_window.specs.Window.{beats}
use Rattle.frame_window.proofs.first_beating.Given as goal

abbrev pub invariant-look : goal.invariant-look
invariant-look l =
    (l.found ≡ None)
    × ((j : ℕ) → j < l.row → l.pixel.place.row - 3 ≤ j → (k : ℕ) → k < l.right → l.pixel.place.column - 3 ≤ k
    → beats l.pixel.frame.samples.now l.pixel.frame.width l.pixel.place.row l.pixel.place.column j k ≡ false)

abbrev pub invariant-loop-column : goal.invariant-loop-column
invariant-loop-column l =
    (l.found ≡ None)
    × ((k : ℕ) → k < l.column → l.pixel.place.column - 3 ≤ k
    → beats l.pixel.frame.samples.now l.pixel.frame.width l.pixel.place.row l.pixel.place.column l.row k ≡ false)
