-- How accurate an attitude is, in words: what "nearly" means of a side's axes and of a matrix. A unit is 10^9, so that 10^18 is a unit's square, and a part
-- in 10^18 of a dot product is 2 x 10^-13 arc seconds. Assumes nothing.
use Rattle.std.specs.Prelude.{ℕ, ◌^◌, ◌≤◌, ℤ, pos, ◌-ℤ◌, ◌*ℤ◌, ◌<ℤ◌}
use Rattle.numbers.specs.Within.{Within, wider}
use Rattle.vectors.specs.declared.Vec3.{Vec3}
use Rattle.vectors.specs.Vectors.{Within3, dot_of, cross_of}
use Rattle.vectors.specs.Symbols.{det_of}
use Rattle.attitude.specs.declared.side.Axes.{Axes}
use Rattle.attitude.specs.declared.Matrix.{Matrix}
use Rattle.attitude.specs.Scale.{largest_of}
use Rattle.attitude.specs.Transposed.{transposed}

-- two vectors that make a side: in range, and not too close
pub record Apart (v w : Vec3) : Type 0 where
  pub first : Within3 1000000000 v
  pub second : Within3 1000000000 w
  pub apart : 2 ^ 30 ≤ largest_of (cross_of v w)

-- the axes stand nearly upright on one another, the second is nearly a unit, and the third as long as the first
pub record NearlyOrthonormal (t : Axes) : Type 0 where
  pub first-second : Within 9000000000 (dot_of t.t1 t.t2)
  pub first-third : Within 3000000000 (dot_of t.t1 t.t3)
  pub second-third : Within 3000000000 (dot_of t.t2 t.t3)
  pub second : Within 4000000000 (dot_of t.t2 t.t2 -ℤ pos 1000000000000000000)
  pub third : Within 25000000000 (dot_of t.t3 t.t3 -ℤ dot_of t.t1 t.t1)

-- m times w is 10^9 v, each of the three numbers within k
pub record Carries (k : ℕ) (m : Matrix) (w v : Vec3) : Type 0 where
  pub x : Within k (dot_of m.row0 w -ℤ pos 1000000000 *ℤ v.x)
  pub y : Within k (dot_of m.row1 w -ℤ pos 1000000000 *ℤ v.y)
  pub z : Within k (dot_of m.row2 w -ℤ pos 1000000000 *ℤ v.z)

-- m times its transposed is 10^18 times the identity, each entry within k
pub record NearlyIdentity (k : ℕ) (m : Matrix) : Type 0 where
  pub xx : Within k (dot_of m.row0 m.row0 -ℤ pos 1000000000000000000)
  pub yy : Within k (dot_of m.row1 m.row1 -ℤ pos 1000000000000000000)
  pub zz : Within k (dot_of m.row2 m.row2 -ℤ pos 1000000000000000000)
  pub xy : Within k (dot_of m.row0 m.row1)
  pub yz : Within k (dot_of m.row1 m.row2)
  pub zx : Within k (dot_of m.row2 m.row0)

pub looser-identity : {k l : ℕ} {m : Matrix} → NearlyIdentity k m → k ≤ l → NearlyIdentity l m
looser-identity r h =
    record { xx = wider r.xx h; yy = wider r.yy h; zz = wider r.zz h; xy = wider r.xy h; yz = wider r.yz h; zx = wider r.zx h }

-- so by rows and by columns, and the determinant is positive: m turns, and does not mirror
pub record NearlyRotation (k : ℕ) (m : Matrix) : Type 0 where
  pub rows : NearlyIdentity k m
  pub columns : NearlyIdentity k (transposed m)
  pub turns : pos 0 <ℤ det_of m.row0 m.row1 m.row2
