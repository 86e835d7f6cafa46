-- `vectors::dot`: each product is within 10^18 of 0, and their sum within 3 * 10^18. Assumes nothing.
use mir.Syntax.{w64}
use Rattle.numbers.specs.Num.{Num, arg, mul, add, fits, back, near}
use Rattle.vectors.specs.declared.Vec3.{Vec3}
use Rattle.vectors.specs.Vectors.{Within3}
use Rattle.vectors.proofs.dot.Goals as goal

module _ {a b : Vec3} (h : Within3 1000000000 a) (k : Within3 1000000000 b) where
  abbrev z : Num w64
  z = mul (arg h.z tt) (arg k.z tt) tt

  abbrev xy : Num w64
  xy = add (mul (arg h.x tt) (arg k.x tt) tt) (mul (arg h.y tt) (arg k.y tt) tt) tt

  abbrev xyz : Num w64
  xyz = add xy z tt

pub overflow_add-result : goal.overflow_add-result
overflow_add-result c = fits (xy c.requires.within3 c.requires.within3_2)

pub overflow_mul-result-3 : goal.overflow_mul-result-3
overflow_mul-result-3 c = fits (z c.requires.within3 c.requires.within3_2)

pub overflow_add-result-2 : goal.overflow_add-result-2
overflow_add-result-2 c = fits (xyz c.requires.within3 c.requires.within3_2)

pub returns-clause-value : goal.returns-clause-value
returns-clause-value c = back (xyz c.requires.within3 c.requires.within3_2)

pub returns-clause-within : goal.returns-clause-within
returns-clause-within c = near (xyz c.requires.within3 c.requires.within3_2) tt
