-- The first a stars were looked at with each other. Assumes nothing.
use Rattle.std.proofs.Common.{Bool, ℕ}
use Rattle.catalogue_cut.specs.marks.Number.{numbers_of}
use Rattle.catalogue_cut.specs.marks.Marks.{Judged}
use Rattle.catalogue_cut.proofs.marks.Pairs.crowd_all.Given as goal

abbrev pub invariant-loop-a : goal.invariant-loop-a
invariant-loop-a l =
    (bright : ℕ → Bool) → Judged bright l.self.stars.now l.self.closeness 0 (numbers_of l.initial.marks)
    → Judged bright l.self.stars.now l.self.closeness l.a (numbers_of l.marks)
