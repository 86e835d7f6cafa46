-- What the matrix of an identification is worth: the directions and the stars are nearly units, so that every law of the attitude holds with no condition.
-- Assumes nothing.
use Rattle.std.specs.Prelude.{List, ◌≡◌, refl, ℕ, ◌+◌, ◌*◌, ◌/◌, ◌≤◌, ◌<◌, ℤ, pos, ◌-ℤ◌, length, get_or}
use Rattle.std.proofs.Common.{sym, ap, ◌∙◌, subst, arith}
use Rattle.std.proofs.Math.Decide.{dec_lt}
use Rattle.std.proofs.Math.IntN.{zero-*ℤ, *ℤ-zero}
use Rattle.std.proofs.Math.ListN.{get_or-eq_default}
use Rattle.numbers.specs.Within.{Within}
use Rattle.vectors.specs.declared.Vec3.{Vec3}
use Rattle.vectors.specs.Vectors.{cross_of}
use Rattle.vectors.specs.Triples.{triple_at}
use Rattle.vectors.specs.Unit.{NearlyUnit}
use Rattle.camera_direction.specs.ListLaws.{directions_in}
use Rattle.catalogue.specs.Format.{records_in, component_of}
use Rattle.catalogue.specs.Stars.{stars_of}
use Rattle.catalogue.specs.Valid.{Valid, StarRule}
use Rattle.catalogue.specs.ValidStars.{valid-length, valid-at}
use Rattle.search_theory.specs.Order.{at}
use Rattle.attitude.specs.declared.Matrix.{Matrix}
use Rattle.attitude.specs.Scale.{largest_of}
use Rattle.attitude.specs.Side.{axes_of}
use Rattle.attitude.specs.Attitude.{attitude_of}
use Rattle.attitude.specs.Transposed.{transposed}
use Rattle.attitude.specs.Nearly.{Apart, NearlyOrthonormal, Carries, NearlyRotation}
use Rattle.attitude.proofs.Accuracy.{camera-apart, sky-apart, found-axes, rotation, star-carried, seen-carried}
use Rattle.attitude.specs.orient.Orient.{first_assigned, second_assigned, orientation_of}
use Rattle.worth_accuracy.specs.Worth.{Worth, attitude-worth}
use Rattle.std.specs.Prelude.{Ok}
use Rattle.refusal.specs.declared.Refusal.{Refusal}

-- and of any that an identification gave
pub orientation-worth :
    (directions : List ℤ) (bytes : List ℕ) (words : List ℕ) (m : Matrix) → Valid bytes → length directions ≡ 3 * directions_in directions →
    ((k : ℕ) → k < directions_in directions → NearlyUnit 500000000000 (triple_at directions k)) →
    orientation_of directions (stars_of bytes) words ≡ Ok m → Worth directions bytes words m
unfolding orientation_of
orientation-worth directions bytes words m valid threes units found = attitude-worth directions bytes words m _ _ valid threes units found
