-- Document 01, "Frame and pixel verdicts": a pixel's verdict. Assumes nothing.
use Rattle.std.specs.Prelude.{Bool, cond, not, ◌&&◌, ◌||◌, List, ℕ, ◌-◌, ltb}
use Rattle.frame_window.specs.Window.{at, beaten}
use Rattle.frame_window.specs.neighbours.Neighbours.{lone}
use Rattle.frame_centroid.specs.Centroid.{centroid_of}
use Rattle.frame_verdict.specs.declared.Kind.{Kind}
use Rattle.frame_verdict.specs.declared.Kind.TheVariants.{Dark, Beaten, Edge, Lone, Measured}
use Rattle.frame_verdict.specs.declared.Verdict.{Verdict}

-- the sample does not reach the threshold
abbrev pub dark : List ℕ → ℕ → ℕ → ℕ → ℕ → Bool
dark samples width threshold row column = ltb (at samples width row column) threshold

-- a side is less than 3 columns or rows beyond the pixel: left, right, top, bottom
unfoldable pub edge : ℕ → ℕ → ℕ → ℕ → Bool
edge width height row column =
    ltb column 3 || (ltb (width - 1 - column) 3 || (ltb row 3 || ltb (height - 1 - row) 3))

-- neither dark nor beaten
unfoldable pub peak : List ℕ → ℕ → ℕ → ℕ → ℕ → ℕ → Bool
peak samples width height threshold row column = not (dark samples width threshold row column) && not (beaten samples width height row column)

-- what a pixel is that is neither: at the edge, lone, or measured
unfoldable pub peak_kind : List ℕ → ℕ → ℕ → ℕ → ℕ → ℕ → Kind
peak_kind samples width height threshold row column =
    cond (edge width height row column) Edge
    (cond (lone samples width height threshold row column) Lone
    (Measured (centroid_of samples width row column)))

-- the tests in document 01's order, as T-04 and T-06 leave them
unfoldable pub kind_of : List ℕ → ℕ → ℕ → ℕ → ℕ → ℕ → Kind
kind_of samples width height threshold row column =
    cond (dark samples width threshold row column) Dark
    (cond (beaten samples width height row column) Beaten
    (peak_kind samples width height threshold row column))

-- the pixel's row and column with its kind
abbrev pub verdict_of : List ℕ → ℕ → ℕ → ℕ → ℕ → ℕ → Verdict
verdict_of samples width height threshold row column =
    record { row = row; column = column; kind = kind_of samples width height threshold row column }

-- the kinds by number, in the order of the tests
abbrev pub kind_number : Kind → ℕ
kind_number Dark = 0
kind_number Beaten = 1
kind_number Edge = 2
kind_number Lone = 3
kind_number (Measured c) = 4
