-- The range of a position, and of the centre: 0 to 261,888 for both numbers. That of the focal length is the lens's. Assumes nothing.
use Rattle.std.specs.Prelude.{Bool, ◌&&◌, ◌≡◌, ℕ, ◌≤◌, ℤ, pos}
use Rattle.std.specs.Int.Signed.{le_z}

unfoldable pub between : ℤ → ℤ → ℤ → Bool
between low high z = le_z low z && le_z z high

abbrev pub place_ok : ℤ → Bool
place_ok z = between (pos 0) (pos 261888) z

unfoldable pub position_ok : ℤ → ℤ → Bool
position_ok x y = place_ok x && place_ok y

-- ---- in plain terms

-- a whole number from low to high
pub record Between (low high : ℕ) (z : ℤ) : Type 0 where
  pub at : ℕ
  pub is : z ≡ pos at
  pub above : low ≤ at
  pub below : at ≤ high
