-- A product is within 2^60 of 0, and a quotient within its product.
use Rattle.std.proofs.Common.{ℤ, pos, w64}
use Rattle.numbers.specs.Within.{Within}
use Rattle.numbers.specs.Num.{Num, arg, param, lit, mul, quot, back}
use Rattle.attitude.proofs.side.unit_by.Goals as goal

abbrev product : {z : ℤ} → Within 1073741823 z → Num w64
product h = mul (lit (pos 1000000000) tt) (arg h tt) tt

pub returns : goal.returns
returns c =
    let d = c.requires.within3 in
    let n = param c.ranges.n in
    λ i. record {
      x = back (quot (product d.x) n tt) i;
      y = back (quot (product d.y) n tt) i;
      z = back (quot (product d.z) n tt) i;
    }
