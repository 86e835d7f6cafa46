-- T-03: which way round three vectors stand, and when two threes are mirror images of each other. Assumes nothing.
use Rattle.std.specs.Prelude.{Bool, ◌&&◌, ◌||◌, ℤ, pos, negsuc}
use Rattle.std.specs.Int.Signed.{quot_z, le_z}
use Rattle.vectors.specs.Vectors.{dot_of, cross_of}
use Rattle.vectors.specs.declared.Vec3.{Vec3}

-- each component over 1,000, toward zero
abbrev pub thousandth_of : Vec3 → Vec3
thousandth_of v = record { x = quot_z v.x (pos 1000); y = quot_z v.y (pos 1000); z = quot_z v.z (pos 1000) }

-- the triple product of three vectors in that order, a · (b x c), of their thousandths
unfoldable pub triple_of : Vec3 → Vec3 → Vec3 → ℤ
triple_of a b c = dot_of (thousandth_of a) (cross_of (thousandth_of b) (thousandth_of c))

-- 10^12 at the least, or -10^12 at the most: a smaller product has no say
abbrev pub right : ℤ → Bool
right p = le_z (pos 1000000000000) p

abbrev pub left : ℤ → Bool
left p = le_z p (negsuc 999999999999)

-- one product is at least 10^12 and the other at most -10^12
unfoldable pub mirrored : ℤ → ℤ → Bool
mirrored p q = (right p && left q) || (left p && right q)
