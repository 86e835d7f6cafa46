-- WHAT THE FLOATS COST: an entry whose size is below 2 x 10^9 is sent as a float that is within 2 parts in 10^16 of the entry over 10^9, with its sign. So is
-- every entry of a matrix that is nearly a rotation. Assumes nothing.
use Rattle.std.specs.Prelude.{ℤ, pos, nat_abs, ◌-ℤ◌}
use Rattle.std.proofs.Common.{ap, mul-le-mul, arith}
use Prim.Native.Nat.{ℕ, ◌*◌, ◌≤◌, ◌<◌}
use Rattle.std.proofs.Math.Decide.{dec_lt}
use Rattle.numbers.specs.Within.{Within}
use Rattle.numbers.specs.Squares.{not-above}
use Rattle.numbers.specs.Split.{within-as}
use Rattle.vectors.specs.declared.Vec3.{Vec3}
use Rattle.vectors.specs.Vectors.{Within3, dot_of}
use Rattle.vectors.specs.Unit.{dot-squares}
use Rattle.attitude.specs.declared.Matrix.{Matrix}
use Rattle.attitude.specs.Side.{squares_of}
use Rattle.attitude.specs.Nearly.{NearlyRotation}
use Rattle.attitude_gimbal.specs.Near.{entry-sent, RowsSent}

small-root : (x : ℕ) → x * x ≤ 2000000000000000000 → Dec (x < 2000000000) → x < 2000000000
small-root x h (yes k) = k
small-root x h (no k) = let l : 2000000000 ≤ x = omega arith in absurd (omega (arith, mul-le-mul l l))

row_small : (v : Vec3) → Within 600000000000 (dot_of v v -ℤ pos 1000000000000000000) → Within3 1999999999 v
row_small v w =
    let s = not-above (squares_of v) 1000000000000000000 (within-as (ap (λ (k : ℤ). k -ℤ pos 1000000000000000000) (dot-squares v)) w) in
    record {
      x = record { within = omega (arith, small-root (nat_abs v.x) (omega arith) (dec_lt (nat_abs v.x) 2000000000)) };
      y = record { within = omega (arith, small-root (nat_abs v.y) (omega arith) (dec_lt (nat_abs v.y) 2000000000)) };
      z = record { within = omega (arith, small-root (nat_abs v.z) (omega arith) (dec_lt (nat_abs v.z) 2000000000)) };
    }

pub rotation-sent : (m : Matrix) → NearlyRotation 600000000000 m → RowsSent 2 m
rotation-sent m r =
    let a = row_small m.row0 r.rows.xx in
    let b = row_small m.row1 r.rows.yy in
    let c = row_small m.row2 r.rows.zz in
    record {
      xx = entry-sent _ (omega (arith, a.x.within));
      xy = entry-sent _ (omega (arith, a.y.within));
      xz = entry-sent _ (omega (arith, a.z.within));
      yx = entry-sent _ (omega (arith, b.x.within));
      yy = entry-sent _ (omega (arith, b.y.within));
      yz = entry-sent _ (omega (arith, b.z.within));
      zx = entry-sent _ (omega (arith, c.x.within));
      zy = entry-sent _ (omega (arith, c.y.within));
      zz = entry-sent _ (omega (arith, c.z.within));
    }
