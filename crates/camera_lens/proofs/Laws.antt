-- What the focal length of a lens comes to: when it is refused, and which whole number it is. Assumes nothing.
use Rattle.std.specs.Prelude.{◌≡◌, ℕ, ◌+◌, ◌*◌, ◌/◌, ◌<◌, ◌≤◌, Bool, true, false, ◌&&◌, Float}
use Rattle.std.proofs.Math.Path.{refl}
use Rattle.std.proofs.Common.{sym, ◌∙◌, subst, div-mul-le_self, div-lt_iff_lt-mul, le-div_iff_mul-le, mul_comm}
use Rattle.std.proofs.Math.Nat.{le_of_suc-le-suc, lt-mul-div-succ, div-eq_of_lt-le}
use Rattle.std.specs.Float.Ieee.Positive.{num, den, den_pos}
use Rattle.camera_lens.specs.declared.Lens.{Lens}
use Rattle.camera_lens.specs.declared.Lens.TheVariants.{Pixels}
use Rattle.camera_lens.specs.Lens.{pixels_of, above_zero, all_above, in_range, whole_of, lens_ok, focal_number}
use Rattle.lists.specs.TestsLaws.{both_true}
use Rattle.camera_lens.specs.Range.{between, range-above, whole-of}
use Rattle.camera_lens.specs.Laws.{Below}

module _ (q : Float) (h : in_range q ≡ true) where
  whole_is : whole_of q ≡ 256 * num q / den q
  whole_is = whole-of q (num q) (den q) (between q h).0 (den_pos q)

  pub whole_below : Below (whole_of q) q
  whole_below =
      subst (λ (n : ℕ). Below n q) (sym whole_is)
      (record {
        at_most = div-mul-le_self (256 * num q) (den q);
        within-one = subst (λ (x : ℕ). 256 * num q < x) (mul_comm (den q) (256 * num q / den q + 1)) (lt-mul-div-succ (256 * num q) (den_pos q));
      })

  -- no other number is
  pub whole-only : (n : ℕ) → Below n q → n ≡ whole_of q
  whole-only n b = sym (whole_is ∙ div-eq_of_lt-le (den q) b.at_most b.within-one)

  -- and it is in the range of a focal length in 1/256 pixel
  pub whole-range : (16384 ≤ whole_of q) × (whole_of q < 4194305)
  whole-range =
      let b = (between q h).1 in (
        subst (λ (n : ℕ). 16384 ≤ n) (sym whole_is) ((le-div_iff_mul-le (den_pos q)).1 b.least),
        subst (λ (n : ℕ). n < 4194305) (sym whole_is) ((div-lt_iff_lt-mul (den_pos q)).1 b.below),
      )

module _ (l : Lens) (h : lens_ok l ≡ true) where
  pub given_above : all_above l ≡ true
  unfolding lens_ok
  given_above = (both_true (all_above l) (in_range (pixels_of l)) h).0

  pub pixels-in : in_range (pixels_of l) ≡ true
  unfolding lens_ok
  pixels-in = (both_true (all_above l) (in_range (pixels_of l)) h).1

  pub focal-below : Below (focal_number l) (pixels_of l)
  unfolding focal_number
  focal-below = whole_below (pixels_of l) pixels-in

  pub focal-only : (n : ℕ) → Below n (pixels_of l) → n ≡ focal_number l
  unfolding focal_number
  focal-only = whole-only (pixels_of l) pixels-in

  pub focal-range : (16384 ≤ focal_number l) × (focal_number l ≤ 4194304)
  unfolding focal_number
  focal-range = let r = whole-range (pixels_of l) pixels-in in (r.0, le_of_suc-le-suc r.1)

above-and : (a r : Bool) → (r ≡ true → a ≡ true) → (a && r) ≡ r
above-and true r f = refl
above-and false true f = f refl
above-and false false f = refl

pub pixels-ok : (q : Float) → lens_ok (Pixels q) ≡ in_range q
unfolding lens_ok
pixels-ok q = above-and (above_zero q) (in_range q) (range-above q)
