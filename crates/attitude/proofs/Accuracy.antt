-- WHAT AN ATTITUDE IS WORTH: of every matrix that the call for an attitude gives, how nearly the axes of both sides are upright units, how nearly the matrix
-- carries the first star to where it was seen and back, and how nearly it is a rotation. Assumes nothing.
use Rattle.std.specs.Prelude.{◌⊎◌, ◌≡◌, refl, ℕ, zero, suc, ◌+◌, ◌*◌, ◌≤◌, ◌<◌, ℤ, pos, negsuc, ◌-ℤ◌, ◌<ℤ◌}
use Rattle.std.proofs.Common.{⊎_elim, sym, ap, ◌∙◌, subst, arith, lit<, lit≤}
use Rattle.numbers.specs.Abs.{abs-zero-sub, pos-positive}
use Rattle.numbers.specs.Within.{Within}
use Rattle.vectors.specs.declared.Vec3.{Vec3}
use Rattle.vectors.specs.Vectors.{Within3}
use Rattle.vectors.specs.Symbols.{det_of}
use Rattle.vectors.specs.Unit.{NearlyUnit}
use Rattle.attitude.specs.declared.Matrix.{Matrix}
use Rattle.attitude.specs.Side.{axes_of}
use Rattle.attitude.specs.Attitude.{matrix_of, attitude_of, attitude_answer}
use Rattle.attitude.specs.Laws.{InRange, in-range, apart-is}
use Rattle.attitude.proofs.Laws.{not-refused, in-range-answer}
use Rattle.attitude.specs.Transposed.{transposed, matrix-turned}
use Rattle.attitude.specs.Nearly.{Apart, NearlyOrthonormal, Carries, NearlyIdentity, looser-identity, NearlyRotation}
use Rattle.attitude.proofs.Carry.{carries}
use Rattle.attitude.proofs.Frame.{axes-orthonormal}
use Rattle.attitude.proofs.Rotation.{product-rows, proper}
use Rattle.std.specs.Prelude.{Result, Ok}
use Rattle.refusal.specs.declared.Refusal.{Refusal}

-- a number nearer to a than to 0 is positive
above_zero : {k : ℕ} (a : ℕ) (z : ℤ) → Within k (z -ℤ pos a) → k < a → pos 0 <ℤ z
above_zero a (pos zero) w h = absurd (omega (arith, w.within, abs-zero-sub (pos a)))
above_zero a (pos (suc n)) w h = pos-positive (omega arith)
above_zero zero (negsuc n) w h = absurd (omega arith)
above_zero (suc b) (negsuc n) w h = absurd (omega (arith, w.within))

module _ (v1 v2 w1 w2 : Vec3) (m : Matrix) (found : attitude_of v1 v2 w1 w2 ≡ Ok m) where
  accepted : (attitude_answer (attitude_of v1 v2 w1 w2)).number ≡ 0
  accepted = ap (λ (a : Result Matrix Refusal). (attitude_answer a).number) found

  range : InRange v1 v2 w1 w2
  range = (in-range v1 v2 w1 w2).0 ((not-refused v1 v2 w1 w2).0 accepted).0

  pub camera-apart : Apart v1 v2
  camera-apart = record { first = range.v1; second = range.v2; apart = ((apart-is v1 v2 w1 w2).0 ((not-refused v1 v2 w1 w2).0 accepted).1).0 }

  pub sky-apart : Apart w1 w2
  sky-apart = record { first = range.w1; second = range.w2; apart = ((apart-is v1 v2 w1 w2).0 ((not-refused v1 v2 w1 w2).0 accepted).1).1 }

  pub found-is : matrix_of v1 v2 w1 w2 ≡ m
  found-is = ⊎_elim (λ e. cc) (λ e. cc) (in-range-answer v1 v2 w1 w2 range)

  -- the axes of both sides, whatever the four vectors
  pub found-axes : NearlyOrthonormal (axes_of v1 v2) × NearlyOrthonormal (axes_of w1 w2)
  found-axes = (axes-orthonormal v1 v2 camera-apart, axes-orthonormal w1 w2 sky-apart)

  -- the first star to where it was seen, as near as the star is to a unit and 18 x 10^9
  pub found-carries : {k : ℕ} → NearlyUnit k w1 → Carries (k + 18000000000) m w1 v1
  found-carries {k} star = subst (λ (n : Matrix). Carries (k + 18000000000) n w1 v1) found-is (carries v1 v2 w1 w2 range.v1 sky-apart star)

  -- and back from the camera to the sky, by the transposed matrix
  pub found_back : {l : ℕ} → NearlyUnit l v1 → Carries (l + 18000000000) (transposed m) v1 w1
  found_back {l} seen =
      subst (λ (n : Matrix). Carries (l + 18000000000) n v1 w1) (matrix-turned v1 v2 w1 w2 ∙ ap transposed found-is)
      (carries w1 w2 v1 v2 range.w1 camera-apart seen)

  module _ {l k : ℕ} (seen : NearlyUnit l v1) (star : NearlyUnit k w1) (few : l ≤ 1000000000000) (few' : k ≤ 1000000000000) where
    pub found_rows : NearlyIdentity (l + k + 94000000000) m
    found_rows = subst (NearlyIdentity (l + k + 94000000000)) found-is (product-rows v1 v2 w1 w2 camera-apart sky-apart seen star few few')

    pub found-columns : NearlyIdentity (k + l + 94000000000) (transposed m)
    found-columns =
        subst (NearlyIdentity (k + l + 94000000000)) (matrix-turned v1 v2 w1 w2 ∙ ap transposed found-is)
        (product-rows w1 w2 v1 v2 sky-apart camera-apart star seen few' few)

    -- the determinant against 10^27
    pub found-det :
        Within (1000000000 * (l + k) + 203000000000000000000) (det_of m.row0 m.row1 m.row2 -ℤ pos 1000000000000000000000000000)
    found-det =
        subst (λ (n : Matrix). Within (1000000000 * (l + k) + 203000000000000000000) (det_of n.row0 n.row1 n.row2 -ℤ pos 1000000000000000000000000000))
        found-is (proper v1 v2 w1 w2 camera-apart sky-apart seen star few few')

  -- ---- for a direction as the rules give it, and a star of a valid catalogue

  module _ (seen : NearlyUnit 500000000000 v1) (star : NearlyUnit 4000000000 w1) where
    pub rotation : NearlyRotation 600000000000 m
    rotation =
        record {
          rows = looser-identity (found_rows seen star (lit≤ tt) (lit≤ tt)) (lit≤ tt);
          columns = looser-identity (found-columns seen star (lit≤ tt) (lit≤ tt)) (lit≤ tt);
          turns = above_zero 1000000000000000000000000000 _ (found-det seen star (lit≤ tt) (lit≤ tt)) (lit< tt);
        }

    pub star-carried : Carries 22000000000 m w1 v1
    star-carried = found-carries star

    pub seen-carried : Carries 518000000000 (transposed m) v1 w1
    seen-carried = found_back seen
