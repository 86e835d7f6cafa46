-- Document 01, "Position": the weights, the brightness, and the position with its sign. Assumes nothing.
use Rattle.std.specs.Prelude.{List, ℕ, ◌+◌, ◌-◌, ◌*◌, ℤ, pos, nat_abs, ◌+ℤ◌, ◌-ℤ◌, ◌*ℤ◌}
use Rattle.std.specs.Int.Signed.{quot_z}
use Rattle.frame_window.specs.Window.{at}
use Rattle.frame_centroid.specs.Sums.{sum_below, sumℤ-below}
use Rattle.frame_centroid.specs.Border.{border_sum}
use Rattle.frame_centroid.specs.declared.Centroid.{Centroid}

-- the weight of an inner pixel, as ℕ's minus has it: nothing where the border outweighs it. The 25 inner pixels have places 0 to 4 along each side
abbrev pub weight : List ℕ → ℕ → ℕ → ℕ → ℕ → ℕ → ℕ
weight samples width row column i j = 24 * at samples width (row - 2 + i) (column - 2 + j) - border_sum samples width row column

-- the brightness B: all weights together
unfoldable pub brightness : List ℕ → ℕ → ℕ → ℕ → ℕ
brightness samples width row column = sum_below 5 (λ i. sum_below 5 (λ j. weight samples width row column i j))

-- "offsets -2 to 2", of places 0 to 4
abbrev pub offset : ℕ → ℤ
offset j = pos j -ℤ pos 2

-- each weight times its offset, summed by columns and by rows
unfoldable pub shift_x : List ℕ → ℕ → ℕ → ℕ → ℤ
shift_x samples width row column = sumℤ-below 5 (λ i. sumℤ-below 5 (λ j. pos (weight samples width row column i j) *ℤ offset j))

unfoldable pub shift_y : List ℕ → ℕ → ℕ → ℕ → ℤ
shift_y samples width row column = sumℤ-below 5 (λ i. sumℤ-below 5 (λ j. pos (weight samples width row column i j) *ℤ offset i))

-- the pixel's own place and a fraction, in 1/256 pixel: the quotient toward zero, the fraction with its sign
abbrev pub along : ℕ → ℤ → ℕ → ℤ
along base shift b = pos (256 * base) +ℤ quot_z (pos 256 *ℤ shift) (pos b)

-- Position and brightness about row, column. `along` is nowhere negative there (`x-is`, `y-is` of Signed), so its size is the number itself
unfoldable pub centroid_of : List ℕ → ℕ → ℕ → ℕ → Centroid
centroid_of samples width row column =
    record {
      x = nat_abs (along column (shift_x samples width row column) (brightness samples width row column));
      y = nat_abs (along row (shift_y samples width row column) (brightness samples width row column));
      brightness = brightness samples width row column;
    }
