-- Star a was looked at with the first b stars. Assumes nothing.
use Rattle.std.proofs.Common.{Bool, ℕ}
use Rattle.catalogue_cut.specs.marks.Number.{number_of, numbers_of}
use Rattle.catalogue_cut.specs.marks.Marks.{Judged, Row}
use Rattle.catalogue_cut.proofs.marks.Pairs.crowd.Given as goal

abbrev pub invariant-loop-b : goal.invariant-loop-b
invariant-loop-b l =
    (bright : ℕ → Bool) → Judged bright l.self.stars.now l.self.closeness l.a (numbers_of l.initial.marks)
    → Row bright l.self.stars.now l.self.closeness l.a l.b (number_of l.own) (numbers_of l.marks)
