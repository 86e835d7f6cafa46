-- Cases I, J and K of the bench set, run through the definition. The root of each side is known, 931322574, and not counted up to. Assumes nothing.
use Rattle.std.specs.Prelude.{◌≡◌, refl, ◌*◌, pos, negsuc}
use Rattle.std.proofs.Common.{lit≤, lit<}
use Rattle.numbers.specs.Root.{Root}
use Rattle.refusal.specs.Numbers.{close}
use Rattle.refusal.specs.Table.{first_applying}
use Rattle.vectors.specs.declared.Vec3.{Vec3}
use Rattle.attitude.specs.Scale.{first_shift, shift_of, reduced_of}
use Rattle.attitude.specs.Attitude.{attitude_of}
use Rattle.attitude.specs.Laws.{refused_as}

-- 10^9 along the axes of the camera, and against the second
abbrev pub right : Vec3
right = record { x = pos 1000000000; y = pos 0; z = pos 0 }

abbrev pub down : Vec3
down = record { x = pos 0; y = pos 1000000000; z = pos 0 }

abbrev pub up : Vec3
up = record { x = pos 0; y = negsuc 999999999; z = pos 0 }

abbrev pub out : Vec3
out = record { x = pos 0; y = pos 0; z = pos 1000000000 }
