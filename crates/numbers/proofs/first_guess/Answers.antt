-- `numbers::first_guess` makes one step of Heron's rule from the power of two at half of n's length. Assumes nothing.
use Rattle.numbers.proofs.Word.{half_is, power-held, sum-held}
use Rattle.numbers.proofs.first_guess.Goals as goal

pub overflow_add-result : goal.overflow_add-result
overflow_add-result c = let h = half_is c.requires c.ranges.n.fits in rw (power-held h) (record { fits = sum-held h })

pub returns : goal.returns
returns c = rw (power-held (half_is c.requires c.ranges.n.fits))
