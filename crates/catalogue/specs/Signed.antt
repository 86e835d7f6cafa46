-- A word read as a signed number, by the half of the words that it is in. Assumes nothing.
use Rattle.std.specs.Prelude.{◌≡◌, ℕ, ◌≤◌, ◌<◌, pos, ◌-ℤ◌}
use Rattle.std.proofs.Common.{arith, lt-ltb, le-ltb, SFits}
use Rattle.std.specs.Int.{w32}
use Rattle.catalogue.specs.Format.{signed_of}

pub signed_low : (w : ℕ) → w < 2147483648 → signed_of w ≡ pos w
unfolding signed_of
signed_low w h = rw (lt-ltb w 2147483648 h)

pub signed_high : (w : ℕ) → 2147483648 ≤ w → signed_of w ≡ pos w -ℤ pos 4294967296
unfolding signed_of
signed_high w h = rw (le-ltb w 2147483648 h)

-- a word of the upper half stands for a number of 32 bits
pub high_fits : (w : ℕ) → 2147483648 ≤ w → w < 4294967296 → SFits w32 (pos w -ℤ pos 4294967296)
high_fits w h k = rw (lt-ltb w 4294967296 k) (record { sfits = omega arith })
