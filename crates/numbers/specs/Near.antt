-- How far above the root a guess may be. Assumes nothing.
use Rattle.std.specs.Prelude.{ℕ, ◌+◌, ◌*◌, ◌≤◌}

-- x is at least s, and above it by at most s / a + 3 / 2
pub record Near (a s x : ℕ) : Type 0 where
  pub above : s ≤ x
  pub close : 2 * (a * x) ≤ 2 * (a * s) + 2 * s + 3 * a
