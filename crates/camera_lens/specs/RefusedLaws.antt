-- Numbers of which none makes a lens: whatever is stated beside it, a number that is not above zero is refused with 19, and so is an infinity. Assumes nothing.
use Rattle.std.specs.Prelude.{◌≡◌, ℕ, Bool, true, false, ◌&&◌, ℤ, pos, refl, Float}
use Rattle.std.proofs.Math.Bool.{and-false}
use Rattle.std.proofs.Common.{ap, ◌∙◌, zero-mul}
use Rattle.std.specs.Float.{nan, inf, fin, binary64}
use Rattle.std.specs.Float.Ieee.{of_int, round, mul, div, lt}
use Rattle.camera_lens.specs.declared.Lens.{Lens}
use Rattle.camera_lens.specs.declared.Lens.TheVariants.{Millimetres, Pixels}
use Rattle.camera_lens.specs.Lens.{pixels_of, above_zero, all_above, in_range, lens_ok, focal_of, out_of_range}
use Rattle.camera_lens.specs.Laws.{lens-out}

-- ---- not above zero: what is no number, the zero of either sign, and every negative number

pub no_number : above_zero nan ≡ false
unfolding lt
no_number = refl

pub zeros : (s : Bool) (e : ℤ) → above_zero (fin s 0 e) ≡ false
unfolding lt
zeros true e = refl
zeros false e = simp zero-mul

pub negatives : (m : ℕ) (e : ℤ) → above_zero (fin true m e) ≡ false
unfolding lt
negatives m e = refl

pub negative-infinity : above_zero (inf true) ≡ false
unfolding lt
negative-infinity = refl

-- ---- a lens that states one

module _ (l : Lens) where
  by-above : all_above l ≡ false → focal_of l ≡ out_of_range
  unfolding lens_ok
  by-above e = lens-out l (ap (λ (t : Bool). t && in_range (pixels_of l)) e)

  by-range : in_range (pixels_of l) ≡ false → focal_of l ≡ out_of_range
  unfolding lens_ok
  by-range e = lens-out l (ap (λ (t : Bool). all_above l && t) e ∙ and-false (all_above l))

pub pixels-not-above : (q : Float) → above_zero q ≡ false → focal_of (Pixels q) ≡ out_of_range
pixels-not-above q e = by-above (Pixels q) e

pub length-not-above : (x y : Float) → above_zero x ≡ false → focal_of (Millimetres x y) ≡ out_of_range
length-not-above x y e = by-above (Millimetres x y) (ap (λ (t : Bool). t && above_zero y) e)

pub pitch-not-above : (x y : Float) → above_zero y ≡ false → focal_of (Millimetres x y) ≡ out_of_range
pitch-not-above x y e = by-above (Millimetres x y) (ap (λ (t : Bool). above_zero x && t) e ∙ and-false (above_zero x))

-- ---- a lens that states an infinity, of either sign: q is an infinity, no number, or a zero

pub pixels-infinite : (s : Bool) → focal_of (Pixels (inf s)) ≡ out_of_range
unfolding in_range
pixels-infinite s = by-range (Pixels (inf s)) refl

pub length-infinite : (s : Bool) (y : Float) → focal_of (Millimetres (inf s) y) ≡ out_of_range
unfolding in_range div mul of_int round
length-infinite s y = by-range (Millimetres (inf s) y) (over y)
  where
    over : (y : Float) → in_range (pixels_of (Millimetres (inf s) y)) ≡ false
    over nan = refl
    over (inf t) = refl
    over (fin t n d) = refl

pub pitch-infinite : (x : Float) (t : Bool) → focal_of (Millimetres x (inf t)) ≡ out_of_range
unfolding in_range div
pitch-infinite x t = by-range (Millimetres x (inf t)) (over (mul binary64 x (of_int binary64 (pos 1000))) t)
  where
    over : (z : Float) (t : Bool) → in_range (div binary64 z (inf t)) ≡ false
    over nan t = refl
    over (inf s) t = refl
    over (fin true m e) true = refl
    over (fin true m e) false = refl
    over (fin false m e) true = refl
    over (fin false m e) false = refl
