-- The same sums with places from 0, as the code has them: each is the sum with offsets, plus twice the brightness. Assumes nothing.
use Rattle.std.specs.Prelude.{cond, ◌≡◌, List, ℕ, ◌+◌, ◌-◌, ◌*◌, ◌/◌, ◌≤◌, ◌<◌, leb}
use Rattle.frame_centroid.specs.Sums.{sum_below}
use Rattle.frame_centroid.specs.Centroid.{weight, brightness}
use Rattle.frame_centroid.specs.declared.Centroid.{Centroid}
use Rattle.frame_centroid.specs.declared.Moments.{Moments}

unfoldable pub moment_x : List ℕ → ℕ → ℕ → ℕ → ℕ
moment_x samples width row column = sum_below 5 (λ i. sum_below 5 (λ j. weight samples width row column i j * j))

unfoldable pub moment_y : List ℕ → ℕ → ℕ → ℕ → ℕ
moment_y samples width row column = sum_below 5 (λ i. sum_below 5 (λ j. weight samples width row column i j * i))

-- 256 times the base, and the quotient of 256 times the difference of m and 2 b by b, added or taken away
unfoldable pub position : ℕ → ℕ → ℕ → ℕ
position base m b = cond (leb (2 * b) m) (256 * base + 256 * (m - 2 * b) / b) (256 * base - 256 * (2 * b - m) / b)

abbrev pub from_moments : ℕ → ℕ → Moments → Centroid
from_moments row column m =
    record {
      x = position column m.across m.brightness;
      y = position row m.down m.brightness;
      brightness = m.brightness;
    }

-- the three sums of a window, and what bounds them
pub record MomentsOf (samples : List ℕ) (width row column : ℕ) (m : Moments) : Type 0 where
  pub bright : m.brightness ≡ brightness samples width row column
  pub across : m.across ≡ moment_x samples width row column
  pub down : m.down ≡ moment_y samples width row column
  pub small : m.brightness ≤ 65536 * 600
  pub across-small : m.across ≤ 4 * m.brightness
  pub down-small : m.down ≤ 4 * m.brightness

-- what a position asks of the sums
pub record Small (m : Moments) : Type 0 where
  pub some : 0 < m.brightness
  pub small : m.brightness ≤ 65536 * 600
  pub across-small : m.across ≤ 4 * m.brightness
  pub down-small : m.down ≤ 4 * m.brightness
