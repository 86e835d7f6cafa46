-- Row by target: the products added from left to right, every operation rounded once in that order, whatever floats come. Assumes nothing.
use Rattle.std.specs.Prelude.{◌≡◌, Float}
use Rattle.std.proofs.Common.{ap}
use Rattle.std.specs.Float.{binary64}
use Rattle.std.specs.Float.Ieee.{add, mul}
use Rattle.floats.specs.Bits.{ToTheBit, equal-bits}
use Rattle.attitude_gimbal.specs.declared.Triple.{Triple}
use Rattle.attitude_gimbal.specs.declared.Cosines.{Cosines}

-- (a x + b y) + c z
abbrev pub along_of : Triple → Triple → Float
along_of r t = add binary64 (add binary64 (mul binary64 r.x t.x) (mul binary64 r.y t.y)) (mul binary64 r.z t.z)

abbrev pub turned_of : Cosines → Triple → Triple
turned_of m t = record { x = along_of m.row0 t; y = along_of m.row1 t; z = along_of m.row2 t }

-- each of the three to the bit
pub record ToTheBit3 (r v : Triple) : Type 0 where
  pub x : ToTheBit r.x v.x
  pub y : ToTheBit r.y v.y
  pub z : ToTheBit r.z v.z

pub equal-bits3 : {r v : Triple} → r ≡ v → ToTheBit3 r v
equal-bits3 e = record {
  x = equal-bits (ap (λ (t : Triple). t.x) e);
  y = equal-bits (ap (λ (t : Triple). t.y) e);
  z =
      equal-bits (ap (λ (t : Triple). t.z) e);
}
