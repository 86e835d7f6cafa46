-- Three numbers, and what is made of them. Assumes nothing.
use Rattle.std.specs.Prelude.{ℕ, ℤ, ◌+ℤ◌, ◌-ℤ◌, ◌*ℤ◌}
use Rattle.numbers.specs.Within.{Within}
use Rattle.vectors.specs.declared.Vec3.{Vec3}

-- each of the three is within b of 0
pub record Within3 (b : ℕ) (v : Vec3) : Type 0 where
  pub x : Within b v.x
  pub y : Within b v.y
  pub z : Within b v.z

abbrev pub dot_of : Vec3 → Vec3 → ℤ
dot_of a b = a.x *ℤ b.x +ℤ a.y *ℤ b.y +ℤ a.z *ℤ b.z

abbrev pub cross_of : Vec3 → Vec3 → Vec3
cross_of a b =
    record {
      x = a.y *ℤ b.z -ℤ a.z *ℤ b.y;
      y = a.z *ℤ b.x -ℤ a.x *ℤ b.z;
      z = a.x *ℤ b.y -ℤ a.y *ℤ b.x;
    }
