-- A dot product moved up by 4 * 10^18, so that it has no sign. Assumes nothing.
use Rattle.std.specs.Prelude.{ℕ, ◌+◌, ◌-◌, ℤ, pos, negsuc}

unfoldable pub raised : ℤ → ℕ
raised (pos n) = 4000000000000000000 + n
raised (negsuc n) = 3999999999999999999 - n
