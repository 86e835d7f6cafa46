-- Request T-01: the first broken side. Assumes nothing.
use Rattle.std.specs.Prelude.{Bool, cond, ℕ, ◌-◌, ltb}
use Rattle.frame_reason.specs.declared.Side.{Side}
use Rattle.frame_reason.specs.declared.Side.TheVariants.{Left, Right, Top, Bottom}

-- fewer than 3 columns or rows lie between the pixel and that side
abbrev pub broken : ℕ → ℕ → ℕ → ℕ → Side → Bool
broken width height row column Left = ltb column 3
broken width height row column Right = ltb (width - 1 - column) 3
broken width height row column Top = ltb row 3
broken width height row column Bottom = ltb (height - 1 - row) 3

-- the order of the sides
abbrev pub side_number : Side → ℕ
side_number Left = 0
side_number Right = 1
side_number Top = 2
side_number Bottom = 3

-- the first of them that is broken; where the first three are whole, the last
unfoldable pub first_side : ℕ → ℕ → ℕ → ℕ → Side
first_side width height row column =
    cond (broken width height row column Left) Left
    (cond (broken width height row column Right) Right
    (cond (broken width height row column Top) Top
    Bottom))
