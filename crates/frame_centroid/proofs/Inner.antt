-- The three sums over the inner part, as the loops add them up. Assumes nothing.
use mathlib.Core.List.{List}
use Prim.Native.Nat.{ℕ, ◌*◌}
use Rattle.frame_centroid.specs.Centroid.{weight}

-- the weights of a row of the inner part, and times the column's place and the row's
abbrev pub plain : List ℕ → ℕ → ℕ → ℕ → ℕ → ℕ → ℕ
plain samples width row column i j = weight samples width row column i j

abbrev pub by-column : List ℕ → ℕ → ℕ → ℕ → ℕ → ℕ → ℕ
by-column samples width row column i j = weight samples width row column i j * j

abbrev pub by_row : List ℕ → ℕ → ℕ → ℕ → ℕ → ℕ → ℕ
by_row samples width row column i j = weight samples width row column i j * i
