-- What the matrix of an identification is worth: the directions and the stars are nearly units, so that every law of the attitude holds with no condition.
-- Assumes nothing.
use Rattle.std.specs.Prelude.{List, ◌≡◌, refl, ℕ, ◌+◌, ◌*◌, ◌/◌, ◌≤◌, ◌<◌, ℤ, pos, ◌-ℤ◌, length, get_or}
use Rattle.std.proofs.Common.{sym, ap, ◌∙◌, subst, arith}
use Rattle.std.proofs.Math.Decide.{dec_lt}
use Rattle.std.proofs.Math.IntN.{zero-*ℤ, *ℤ-zero}
use Rattle.std.proofs.Math.ListN.{get_or-eq_default}
use Rattle.numbers.specs.Within.{Within}
use Rattle.vectors.specs.declared.Vec3.{Vec3}
use Rattle.vectors.specs.Vectors.{cross_of}
use Rattle.vectors.specs.Triples.{triple_at}
use Rattle.vectors.specs.Unit.{NearlyUnit}
use Rattle.camera_direction.specs.ListLaws.{directions_in}
use Rattle.catalogue.specs.Format.{records_in, component_of}
use Rattle.catalogue.specs.Stars.{stars_of}
use Rattle.catalogue.specs.Valid.{Valid, StarRule}
use Rattle.catalogue.specs.ValidStars.{valid-length, valid-at}
use Rattle.search_theory.specs.Order.{at}
use Rattle.attitude.specs.declared.Matrix.{Matrix}
use Rattle.attitude.specs.Scale.{largest_of}
use Rattle.attitude.specs.Side.{axes_of}
use Rattle.attitude.specs.Attitude.{attitude_of}
use Rattle.attitude.specs.Transposed.{transposed}
use Rattle.attitude.specs.Nearly.{Apart, NearlyOrthonormal, Carries, NearlyRotation}
use Rattle.attitude.proofs.Accuracy.{camera-apart, sky-apart, found-axes, rotation, star-carried, seen-carried}
use Rattle.attitude.specs.orient.Orient.{first_assigned, second_assigned, orientation_of}
use Rattle.std.specs.Prelude.{Ok}
use Rattle.refusal.specs.declared.Refusal.{Refusal}

-- the first two directions that have a star, with it; every direction and every star is nearly a unit; the matrix is the attitude of those two; the axes of
-- both sides are nearly orthonormal; and the matrix carries the first star to where it was seen within
-- 22 x 10^9, the direction back to the star within 518 x 10^9, and is a rotation within 6 x 10^11, of 10^18 each
pub record Worth (directions : List ℤ) (bytes : List ℕ) (words : List ℕ) (m : Matrix) : Type 0 where
  pub first : ℕ
  pub second : ℕ
  pub first-seen : first < directions_in directions
  pub second-seen : second < directions_in directions
  pub first-star : at words first < records_in bytes
  pub second-star : at words second < records_in bytes
  pub units : (k : ℕ) → k < directions_in directions → NearlyUnit 500000000000 (triple_at directions k)
  pub stars : (k : ℕ) → k < records_in bytes → NearlyUnit 4000000000 (triple_at (stars_of bytes) k)
  pub found :
      attitude_of (triple_at directions first) (triple_at directions second) (triple_at (stars_of bytes) (at words first))
      (triple_at (stars_of bytes) (at words second)) ≡ Ok m
  pub camera : NearlyOrthonormal (axes_of (triple_at directions first) (triple_at directions second))
  pub sky : NearlyOrthonormal (axes_of (triple_at (stars_of bytes) (at words first)) (triple_at (stars_of bytes) (at words second)))
  pub carries : Carries 22000000000 m (triple_at (stars_of bytes) (at words first)) (triple_at directions first)
  pub back : Carries 518000000000 (transposed m) (triple_at directions first) (triple_at (stars_of bytes) (at words first))
  pub rotation : NearlyRotation 600000000000 m

-- ---- a star of a valid catalogue is nearly a unit

pub star-unit : (bytes : List ℕ) → Valid bytes → (i : ℕ) → i < records_in bytes → NearlyUnit 4000000000 (triple_at (stars_of bytes) i)
unfolding triple_at
star-unit bytes v i h =
    let x : get_or (stars_of bytes) (3 * i) (pos 0) ≡ component_of bytes i 0 = ap (λ (n : ℕ). get_or (stars_of bytes) n (pos 0)) (none i)
    ∙ valid-at bytes v i 0 h (omega arith) in
    record { length = rw (x, valid-at bytes v i 1 h (omega arith), valid-at bytes v i 2 h (omega arith)) (v.stars i h).norm }
  where
    none : (i : ℕ) → 3 * i ≡ 3 * i + 0
    none i = omega arith

-- ---- behind the end of a list stand zeros, and no side can be made of them

abbrev zeros : Vec3
zeros = record { x = pos 0; y = pos 0; z = pos 0 }

behind : (list : List ℤ) (i : ℕ) → length list ≤ 3 * i → triple_at list i ≡ zeros
unfolding triple_at
behind list i h =
    λ t. record {
      x = get_or-eq_default list (pos 0) {n = 3 * i} h t;
      y = get_or-eq_default list (pos 0) {n = 3 * i + 1} (omega arith) t;
      z = get_or-eq_default list (pos 0) {n = 3 * i + 2} (omega arith) t;
    }

none_first : (w : Vec3) → Apart zeros w → ⊥
none_first w a = omega (arith, a.apart, ap largest_of (flat w))
  where
    flat : (w : Vec3) → cross_of zeros w ≡ zeros
    flat w = λ t. record { x = zero-*ℤ w.z t -ℤ zero-*ℤ w.y t; y = zero-*ℤ w.x t -ℤ zero-*ℤ w.z t; z = zero-*ℤ w.y t -ℤ zero-*ℤ w.x t }

none-second : (v : Vec3) → Apart v zeros → ⊥
none-second v a = omega (arith, a.apart, ap largest_of (flat v))
  where
    flat : (v : Vec3) → cross_of v zeros ≡ zeros
    flat v = λ t. record { x = *ℤ-zero v.y t -ℤ *ℤ-zero v.z t; y = *ℤ-zero v.z t -ℤ *ℤ-zero v.x t; z = *ℤ-zero v.x t -ℤ *ℤ-zero v.y t }

-- ---- so of any matrix that two directions and their stars gave

module _
    (directions : List ℤ) (bytes : List ℕ) (words : List ℕ) (m : Matrix) (i j : ℕ)
    (valid : Valid bytes) (threes : length directions ≡ 3 * directions_in directions)
    (units : (k : ℕ) → k < directions_in directions → NearlyUnit 500000000000 (triple_at directions k))
    (found : attitude_of (triple_at directions i) (triple_at directions j) (triple_at (stars_of bytes) (at words i)) (triple_at (stars_of bytes) (at words j))
    ≡ Ok m)
  where
    abbrev v1 : Vec3
    v1 = triple_at directions i

    abbrev v2 : Vec3
    v2 = triple_at directions j

    abbrev w1 : Vec3
    w1 = triple_at (stars_of bytes) (at words i)

    abbrev w2 : Vec3
    w2 = triple_at (stars_of bytes) (at words j)

    camera : Apart v1 v2
    camera = camera-apart v1 v2 w1 w2 m found

    sky : Apart w1 w2
    sky = sky-apart v1 v2 w1 w2 m found

    -- the place of a vector that a side is made of lies in its list
    inside : (list : List ℤ) (n k : ℕ) → length list ≡ 3 * n → (triple_at list k ≡ zeros → ⊥) → k < n
    inside list n k e filled = by (dec_lt k n)
      where
        by : Dec (k < n) → k < n
        by (yes h) = h
        by (no h) = absurd (filled (behind list k (omega arith)))

    seen_first : i < directions_in directions
    seen_first = inside directions (directions_in directions) i threes (λ e. none_first v2 (subst (λ (v : Vec3). Apart v v2) e camera))

    seen-second : j < directions_in directions
    seen-second = inside directions (directions_in directions) j threes (λ e. none-second v1 (subst (Apart v1) e camera))

    star-first : at words i < records_in bytes
    star-first = inside (stars_of bytes) (records_in bytes) (at words i) (valid-length bytes valid) (λ e. none_first w2 (subst (λ (v : Vec3). Apart v w2) e sky))

    star-second : at words j < records_in bytes
    star-second = inside (stars_of bytes) (records_in bytes) (at words j) (valid-length bytes valid) (λ e. none-second w1 (subst (Apart w1) e sky))

    pub attitude-worth : Worth directions bytes words m
    attitude-worth =
        let seen = units i seen_first in
        let star = star-unit bytes valid (at words i) star-first in
        let axes = found-axes v1 v2 w1 w2 m found in
        record {
          first = i;
          second = j;
          first-seen = seen_first;
          second-seen = seen-second;
          first-star = star-first;
          second-star = star-second;
          units = units;
          stars = star-unit bytes valid;
          found = found;
          camera = axes.0;
          sky = axes.1;
          carries = star-carried v1 v2 w1 w2 m found seen star;
          back = seen-carried v1 v2 w1 w2 m found seen star;
          rotation = rotation v1 v2 w1 w2 m found seen star;
        }
