-- How large a triple product of thousandths can be: components within 10^6 make a product within 6 x 10^18. And what `mirrored` comes to, case by case.
-- Assumes nothing.
use Rattle.numbers.specs.Within.{Within}
use Rattle.vectors.specs.Vectors.{Within3}
use Rattle.vectors.specs.Laws.{dot-within, cross-within}
use Rattle.vectors.specs.declared.Vec3.{Vec3}
use Rattle.vectors.specs.handedness.Handedness.{triple_of}
use Rattle.vectors.specs.handedness.Laws.{thousandth-within}

pub triple-within : {a b c : Vec3} → Within3 1000000000 a → Within3 1000000000 b → Within3 1000000000 c → Within 6000000000000000000 (triple_of a b c)
unfolding triple_of
triple-within f g h = dot-within (thousandth-within f) (cross-within (thousandth-within g) (thousandth-within h))
