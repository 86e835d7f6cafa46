-- `vectors::handedness::product`: each component of the cross product is within 2 * 10^12 of 0, and the sum within 6 * 10^18. Assumes nothing.
use Rattle.std.specs.Prelude.{ℤ}
use mir.Syntax.{w64}
use Rattle.numbers.specs.Within.{Within}
use Rattle.numbers.specs.Num.{Num, arg, mul, add, sub, fits, back, near}
use Rattle.vectors.specs.declared.Vec3.{Vec3}
use Rattle.vectors.specs.Vectors.{Within3}
use Rattle.vectors.proofs.handedness.product.Goals as goal

abbrev times : {x y : ℤ} → Within 1000000 x → Within 1000000 y → Num w64
times h k = mul (arg h tt) (arg k tt) tt

-- a (p s - q r)
abbrev across : {p q r s : ℤ} → Within 1000000 p → Within 1000000 s → Within 1000000 q → Within 1000000 r → Num w64
across p s q r = sub (times p s) (times q r) tt

abbrev term : {a p q r s : ℤ} → Within 1000000 a → Within 1000000 p → Within 1000000 s → Within 1000000 q → Within 1000000 r → Num w64
term a p s q r = mul (arg a tt) (across p s q r) tt

module _ {a b d : Vec3} (f : Within3 1000000 a) (g : Within3 1000000 b) (h : Within3 1000000 d) where
  abbrev xy : Num w64
  xy = add (term f.x g.y h.z g.z h.y) (term f.y g.z h.x g.x h.z) tt

  abbrev xyz : Num w64
  xyz = add xy (term f.z g.x h.y g.y h.x) tt

pub overflow_sub-result : goal.overflow_sub-result
overflow_sub-result c = let g = c.requires.within3_2 in let h = c.requires.within3_3 in fits (across g.y h.z g.z h.y)

pub overflow_mul-result-3 : goal.overflow_mul-result-3
overflow_mul-result-3 c =
    let f = c.requires.within3 in let g = c.requires.within3_2 in let h = c.requires.within3_3 in fits (term f.x g.y h.z g.z h.y)

pub overflow_mul-result-4 : goal.overflow_mul-result-4
overflow_mul-result-4 c = fits (times c.requires.within3_2.z c.requires.within3_3.x)

pub overflow_mul-result-5 : goal.overflow_mul-result-5
overflow_mul-result-5 c = fits (times c.requires.within3_2.x c.requires.within3_3.z)

pub overflow_sub-result-2 : goal.overflow_sub-result-2
overflow_sub-result-2 c = let g = c.requires.within3_2 in let h = c.requires.within3_3 in fits (across g.z h.x g.x h.z)

pub overflow_mul-result-6 : goal.overflow_mul-result-6
overflow_mul-result-6 c =
    let f = c.requires.within3 in let g = c.requires.within3_2 in let h = c.requires.within3_3 in fits (term f.y g.z h.x g.x h.z)

pub overflow_add-result : goal.overflow_add-result
overflow_add-result c = fits (xy c.requires.within3 c.requires.within3_2 c.requires.within3_3)

pub overflow_mul-result-7 : goal.overflow_mul-result-7
overflow_mul-result-7 c = fits (times c.requires.within3_2.x c.requires.within3_3.y)

pub overflow_mul-result-8 : goal.overflow_mul-result-8
overflow_mul-result-8 c = fits (times c.requires.within3_2.y c.requires.within3_3.x)

pub overflow_sub-result-3 : goal.overflow_sub-result-3
overflow_sub-result-3 c = let g = c.requires.within3_2 in let h = c.requires.within3_3 in fits (across g.x h.y g.y h.x)

pub overflow_mul-result-9 : goal.overflow_mul-result-9
overflow_mul-result-9 c =
    let f = c.requires.within3 in let g = c.requires.within3_2 in let h = c.requires.within3_3 in fits (term f.z g.x h.y g.y h.x)

pub overflow_add-result-2 : goal.overflow_add-result-2
overflow_add-result-2 c = fits (xyz c.requires.within3 c.requires.within3_2 c.requires.within3_3)

pub returns-clause-value : goal.returns-clause-value
returns-clause-value c = back (xyz c.requires.within3 c.requires.within3_2 c.requires.within3_3)

pub returns-clause-within : goal.returns-clause-within
returns-clause-within c = near (xyz c.requires.within3 c.requires.within3_2 c.requires.within3_3) tt
