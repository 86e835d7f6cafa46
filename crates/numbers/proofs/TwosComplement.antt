-- Two's complement: a word in the lower half of its width's words stands for itself, one in the upper half for the number that is their count below it.
-- Assumes nothing.
use Rattle.std.specs.Prelude.{◌≡◌, ℕ, suc, ◌+◌, ◌≤◌, pos, negsuc, ◌-ℤ◌}
use Rattle.std.proofs.Common.{ap, ◌∙◌, arith, lt-ltb}
use Rattle.numbers.specs.TwosComplement.{signed_by, signed_high}

-- in plain terms: in the upper half it is the word less the count of the words, suc m
pub signed-plain : (half m word : ℕ) → half + half ≡ suc m → half ≤ word → word ≤ m → signed_by half word ≡ pos word -ℤ pos (suc m)
signed-plain half m word e h k = signed_high half word h ∙ rw (lt-ltb word (suc m) (omega arith)) (ap negsuc (omega arith))
