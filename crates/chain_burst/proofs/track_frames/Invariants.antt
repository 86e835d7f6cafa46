-- The two rooms are as the first k frames leave them.
use Rattle.chain_burst.proofs.OneMore.{Passed}
use Rattle.chain_burst.proofs.track_frames.Given as goal

abbrev pub invariant-loop-k : goal.invariant-loop-k
invariant-loop-k l = Passed l.catalogue l.settings l.size l.samples l.initial.room l.initial.records l.k l.room l.records
