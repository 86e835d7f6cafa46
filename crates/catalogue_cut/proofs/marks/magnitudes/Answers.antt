-- One more record has its mark. Assumes nothing.
use Rattle.std.proofs.Common.{◌<◌, length, arith, ◌∙◌, below_more, get_or-set_same, get_or-set_other, length-set}
use Rattle.catalogue_cut.specs.marks.Number.{number_of, numbers_of}
use Rattle.catalogue_cut.proofs.marks.Numbers.{numbers-length, numbers-set}
use Rattle.catalogue_cut.proofs.marks.magnitudes.Goals as goal

pub loop-i-preserved : goal.loop-i-preserved
loop-i-preserved c =
    let l = c.loop-i in
    let xs = numbers_of l.marks in
    let v = number_of c.by_magnitude.result in
    let h : l.i < length xs = omega (arith, numbers-length l.marks) in
    let more = below_more _ _ (λ k m. get_or-set_other xs l.i k v 0 (λ d. omega arith) ∙ l.invariant.1 k m) (get_or-set_same xs l.i v 0 h ∙ c.by_magnitude.ensures) in
    (simp length-set l.invariant.0, rw (numbers-set l.marks l.i c.by_magnitude.result) more)
