-- The focal length of a lens in 1/256 pixel, or refusal 19. `lib.Ieee` has the floats: `fin s m e` is m * 2^e, negative where s is true, and 2^e is the
-- fraction up e / down e. Each operation on floats rounds once. Assumes nothing.
use Rattle.std.specs.Prelude.{ℕ, ◌*◌, ◌/◌, Bool, true, false, cond, not, ◌&&◌, List, [], ◌∷◌, pos, nat_le, nat_lt, Float}
use Rattle.std.specs.Float.{nan, inf, fin, binary64}
use Rattle.std.specs.Float.Ieee.{up, down, of_int, mul, div, lt}
use Rattle.refusal.specs.Numbers.{lens}
use Rattle.refusal.specs.Table.{Row, row, first_applying, answered}
use Rattle.refusal.specs.Answer.{Answer, refused_with, accepted_with}
use Rattle.camera_lens.specs.declared.Lens.{Lens}
use Rattle.camera_lens.specs.declared.Lens.TheVariants.{Millimetres, Pixels}
use Rattle.std.specs.Prelude.{Result, Ok, Err}
use Rattle.refusal.specs.declared.Refusal.{Refusal}
use Rattle.std.specs.Prelude.{ℤ}

-- q: the focal length in pixels
abbrev pub pixels_of : Lens → Float
pixels_of (Millimetres focal pitch) = div binary64 (mul binary64 focal (of_int binary64 (pos 1000))) pitch
pixels_of (Pixels q) = q

-- 0 < x: an infinity may be, a NaN is not
abbrev pub above_zero : Float → Bool
above_zero x = lt (fin false 0 (pos 0)) x

-- every number that is given is above zero
abbrev pub all_above : Lens → Bool
all_above (Millimetres focal pitch) = above_zero focal && above_zero pitch
all_above (Pixels q) = above_zero q

-- 16,384 ≤ 256 q < 4,194,305, of the number q itself, with nothing rounded
unfoldable pub in_range : Float → Bool
in_range nan = false
in_range (inf s) = false
in_range (fin true m e) = false
in_range (fin false m e) = nat_le (16384 * down e) (256 * (m * up e)) && nat_lt (256 * (m * up e)) (4194305 * down e)

-- the whole part of 256 q, for a q that is not below zero
unfoldable pub whole_of : Float → ℕ
whole_of nan = 0
whole_of (inf s) = 0
whole_of (fin s m e) = 256 * (m * up e) / down e

unfoldable pub lens_ok : Lens → Bool
lens_ok l = all_above l && in_range (pixels_of l)

-- F, of a lens that is not refused
unfoldable pub focal_number : Lens → ℕ
focal_number l = whole_of (pixels_of l)

abbrev pub refusals_of : Lens → List Row
refusals_of l = row (not (lens_ok l)) lens ∷ []

unfoldable pub focal_of : Lens → Result ℤ Refusal
focal_of l = answered Err (Ok (pos (focal_number l))) (first_applying (refusals_of l))

abbrev pub out_of_range : Result ℤ Refusal
out_of_range = Err (record { number = lens; place = 0 })

-- ---- in document 02's own terms

abbrev pub focal_answer : Result ℤ Refusal → Answer
focal_answer (Err r) = refused_with r.number r.place
focal_answer (Ok f) = accepted_with (f ∷ [])

-- the answer that a lens must have
abbrev pub answer_for : Lens → Answer
answer_for l = cond (not (lens_ok l)) (refused_with 19 0) (accepted_with (pos (focal_number l) ∷ []))
