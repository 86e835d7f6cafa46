-- A position lies at most two pixels from its pixel. Assumes nothing.
use Rattle.std.specs.Prelude.{Bool, true, false, cond, ◌≡◌, refl, List, ℕ, zero, suc, ◌+◌, ◌-◌, ◌*◌, ◌/◌, ◌≤◌, ◌<◌, leb}
use Rattle.std.proofs.Common.{arith}
use Rattle.frame_centroid.specs.Sums.{sum_below, times-small, quotient-small}
use Rattle.frame_centroid.specs.Centroid.{weight, brightness, centroid_of}
use Rattle.frame_centroid.specs.Moments.{moment_x, moment_y, position}
use Rattle.frame_centroid.specs.Signed.{x-position, y-position}

sum-four : (n : ℕ) (g k : ℕ → ℕ) → ((j : ℕ) → j < n → g j ≤ 4 * k j) → sum_below n g ≤ 4 * sum_below n k
unfolding sum_below
sum-four zero g k h = omega arith
sum-four (suc n) g k h =
    let i = sum-four n g k (λ j l. h j (omega arith)) in
    omega (arith, h n (omega arith))

-- a position, as close as the sums make it
pub record Close (base x : ℕ) : Type 0 where
  pub least : 256 * base ≤ x + 512
  pub most : x ≤ 256 * base + 512

pub position-close : (base m b : ℕ) → 2 ≤ base → m ≤ 4 * b → Close base (position base m b)
unfolding position
position-close base m b h s = go (leb (2 * b) m) refl
  where
    go : (t : Bool) → leb (2 * b) m ≡ t → Close base (cond t (256 * base + 256 * (m - 2 * b) / b) (256 * base - 256 * (2 * b - m) / b))
    go true e =
        let q = quotient-small (m - 2 * b) b (omega arith) in
        record { least = omega arith; most = omega arith }
    go false e =
        let q = quotient-small (2 * b - m) b (omega arith) in
        record { least = omega arith; most = omega arith }

module _ (samples : List ℕ) (width row column : ℕ) where
  moment_x-small : moment_x samples width row column ≤ 4 * brightness samples width row column
  unfolding moment_x brightness
  moment_x-small =
      sum-four 5 (λ i. sum_below 5 (λ j. weight samples width row column i j * j)) (λ i. sum_below 5 (λ j. weight samples width row column i j))
      (λ i p. sum-four 5 (λ j. weight samples width row column i j * j) (λ j. weight samples width row column i j)
      (λ j q. times-small (weight samples width row column i j) j q))

  moment_y-small : moment_y samples width row column ≤ 4 * brightness samples width row column
  unfolding moment_y brightness
  moment_y-small =
      sum-four 5 (λ i. sum_below 5 (λ j. weight samples width row column i j * i)) (λ i. sum_below 5 (λ j. weight samples width row column i j))
      (λ i p. sum-four 5 (λ j. weight samples width row column i j * i) (λ j. weight samples width row column i j)
      (λ j q. times-small (weight samples width row column i j) i p))

  pub x-close : 2 ≤ column → Close column (centroid_of samples width row column).x
  unfolding centroid_of
  x-close h =
      rw (← x-position samples width row column h)
      (position-close column (moment_x samples width row column) (brightness samples width row column) h moment_x-small)

  pub y-close : 2 ≤ row → Close row (centroid_of samples width row column).y
  unfolding centroid_of
  y-close h =
      rw (← y-position samples width row column h)
      (position-close row (moment_y samples width row column) (brightness samples width row column) h moment_y-small)
