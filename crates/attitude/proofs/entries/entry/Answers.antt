-- The products are within 10^18, 10^18 and 4 * 10^18 of 0, their sum within 6 * 10^18.
use Rattle.std.proofs.Common.{pos, w64}
use Rattle.vectors.specs.declared.Vec3.{Vec3}
use Rattle.numbers.specs.Num.{Num, arg, lit, mul, add, quot, fits, back}
use Rattle.attitude.specs.Components.{ComponentWithin}
use Rattle.attitude.proofs.entries.entry.Goals as goal

module _ {c s : Vec3} (h : ComponentWithin c) (k : ComponentWithin s) where
  abbrev two : Num w64
  two = add (mul (arg h.x tt) (arg k.x tt) tt) (mul (arg h.y tt) (arg k.y tt) tt) tt

  abbrev third : Num w64
  third = mul (arg h.z tt) (arg k.z tt) tt

  abbrev sum : Num w64
  sum = add two third tt

pub overflow_add-result : goal.overflow_add-result
overflow_add-result c = fits (two c.requires.camera_within c.requires.sky_within)

pub overflow_mul-result-3 : goal.overflow_mul-result-3
overflow_mul-result-3 c = fits (third c.requires.camera_within c.requires.sky_within)

pub overflow_add-result-2 : goal.overflow_add-result-2
overflow_add-result-2 c = fits (sum c.requires.camera_within c.requires.sky_within)

pub returns : goal.returns
returns c = back (quot (sum c.requires.camera_within c.requires.sky_within) (lit (pos 1000000000) tt) tt)
