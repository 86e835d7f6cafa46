-- What it is to be no edge: 3 rows and columns on each side, so that all eight neighbours are there. Assumes nothing.
use Rattle.std.specs.Prelude.{false, ◌≡◌, ℕ, ◌+◌, ◌-◌, ◌≤◌, ◌<◌, ltb}
use Rattle.std.proofs.Common.{arith, ltb-false}
use Rattle.lists.specs.TestsLaws.{neither-true}
use Rattle.frame_window.specs.neighbours.Laws.{Amid}
use Rattle.frame_verdict.specs.Verdict.{edge}

pub record Inside (width height row column : ℕ) : Type 0 where
  pub left : 3 ≤ column
  pub right : column + 3 < width
  pub above : 3 ≤ row
  pub below : row + 3 < height

pub inside : (width height row column : ℕ) → edge width height row column ≡ false → Inside width height row column
unfolding edge
inside width height row column e =
    let a = neither-true (ltb column 3) _ e in
    let b = neither-true (ltb (width - 1 - column) 3) _ a.1 in
    let c = neither-true (ltb row 3) (ltb (height - 1 - row) 3) b.1 in
    let p = ltb-false column 3 a.0 in
    let q = ltb-false (width - 1 - column) 3 b.0 in
    let r = ltb-false row 3 c.0 in
    let s = ltb-false (height - 1 - row) 3 c.1 in
    record { left = omega arith; right = omega arith; above = omega arith; below = omega arith }

pub amid : (width height row column : ℕ) → Inside width height row column → Amid width height row column
amid width height row column i = record { left = omega arith; right = omega arith; above = omega arith; below = omega arith }
