-- `vectors::cross`: each product is within 10^18 of 0, and each difference within 2 * 10^18. Assumes nothing.
use Rattle.std.specs.Prelude.{ℤ}
use mir.Syntax.{w64}
use Rattle.numbers.specs.Within.{Within}
use Rattle.numbers.specs.Num.{Num, arg, mul, sub, fits, back, near}
use Rattle.vectors.specs.declared.Vec3.{Vec3}
use Rattle.vectors.specs.Vectors.{Within3}
use Rattle.vectors.proofs.cross.Goals as goal

abbrev product : {x y : ℤ} → Within 1000000000 x → Within 1000000000 y → Num w64
product h k = mul (arg h tt) (arg k tt) tt

module _ {a b : Vec3} (h : Within3 1000000000 a) (k : Within3 1000000000 b) where
  abbrev x : Num w64
  x = sub (product h.y k.z) (product h.z k.y) tt

  abbrev y : Num w64
  y = sub (product h.z k.x) (product h.x k.z) tt

  abbrev z : Num w64
  z = sub (product h.x k.y) (product h.y k.x) tt

pub overflow_sub-result : goal.overflow_sub-result
overflow_sub-result c = fits (x c.requires.within3 c.requires.within3_2)

pub overflow_mul-result-3 : goal.overflow_mul-result-3
overflow_mul-result-3 c = fits (product c.requires.within3.z c.requires.within3_2.x)

pub overflow_mul-result-4 : goal.overflow_mul-result-4
overflow_mul-result-4 c = fits (product c.requires.within3.x c.requires.within3_2.z)

pub overflow_sub-result-2 : goal.overflow_sub-result-2
overflow_sub-result-2 c = fits (y c.requires.within3 c.requires.within3_2)

pub overflow_mul-result-5 : goal.overflow_mul-result-5
overflow_mul-result-5 c = fits (product c.requires.within3.x c.requires.within3_2.y)

pub overflow_mul-result-6 : goal.overflow_mul-result-6
overflow_mul-result-6 c = fits (product c.requires.within3.y c.requires.within3_2.x)

pub overflow_sub-result-3 : goal.overflow_sub-result-3
overflow_sub-result-3 c = fits (z c.requires.within3 c.requires.within3_2)

pub returns-clause-value : goal.returns-clause-value
returns-clause-value c =
    let h = c.requires.within3 in let k = c.requires.within3_2 in
    λ i. record { x = back (x h k) i; y = back (y h k) i; z = back (z h k) i }

pub returns-clause-within3_3 : goal.returns-clause-within3_3
returns-clause-within3_3 c =
    let h = c.requires.within3 in let k = c.requires.within3_2 in
    record { x = near (x h k) tt; y = near (y h k) tt; z = near (z h k) tt }
