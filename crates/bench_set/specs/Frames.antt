-- The frames of the bench set: 7 x 7 samples. Assumes nothing.
use Rattle.std.specs.Prelude.{List, [], ◌∷◌, ℕ, ◌+◌, ◌*◌, set, replicate}

abbrev pub side : ℕ
side = 7

-- a pixel and its sample
pub record Lit : Type 0 where
  pub row : ℕ
  pub column : ℕ
  pub sample : ℕ

abbrev pub lit : ℕ → ℕ → ℕ → Lit
lit row column sample = record { row = row; column = column; sample = sample }

-- the same sample everywhere
abbrev pub evenly : ℕ → List ℕ
evenly sample = replicate (side * side) sample

-- 0 but at the pixels named
abbrev pub frame_of : List Lit → List ℕ
frame_of [] = evenly 0
frame_of (l ∷ ls) = set (frame_of ls) (l.row * side + l.column) l.sample
