-- Cases I, J and K of the bench set, run through the definition. The root of each side is known, 931322574, and not counted up to. Assumes nothing.
use Rattle.std.specs.Prelude.{◌≡◌, refl, ◌*◌, pos, negsuc}
use Rattle.std.proofs.Common.{lit≤, lit<}
use Rattle.numbers.specs.Root.{Root}
use Rattle.refusal.specs.Numbers.{close}
use Rattle.refusal.specs.Table.{first_applying}
use Rattle.vectors.specs.declared.Vec3.{Vec3}
use Rattle.attitude.specs.Scale.{first_shift, shift_of, reduced_of}
use Rattle.attitude.specs.Attitude.{attitude_of}
use Rattle.attitude.specs.Laws.{refused_as}
use Rattle.attitude.proofs.Known.{attitude-by}
use Rattle.attitude.specs.Bench.{right, down, up, out}
use Rattle.std.specs.Prelude.{Ok}

-- d of every side here is 10^18 / 2^30 along one axis
known : Root (931322574 * 931322574) 931322574
known = record { below = lit≤ tt; above = lit< tt }

-- I: two vectors with themselves give the identity
pub case-I : attitude_of out right out right ≡ Ok (record { row0 = right; row1 = down; row2 = out })
unfolding reduced_of shift_of first_shift first_applying
case-I = attitude-by out right out right known known

-- J: the camera sees them turned
pub case-J : attitude_of out down out right ≡ Ok (record { row0 = up; row1 = right; row2 = out })
unfolding reduced_of shift_of first_shift first_applying
case-J = attitude-by out down out right known known

-- K: one direction twice
pub case-K : attitude_of out out out right ≡ refused_as close
unfolding attitude_of first_applying
case-K = refl
