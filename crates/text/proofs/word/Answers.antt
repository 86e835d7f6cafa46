use Rattle.std.proofs.lemmas.List.{take_more}
use Rattle.text.specs.WrittenLaws.{wrote_none, wrote_then}
use Rattle.text.proofs.word.Goals as goal

pub loop-b-init : goal.loop-b-init
loop-b-init c = wrote_none _ _

pub loop-b-preserved : goal.loop-b-preserved
loop-b-preserved c = rw (take_more _ _ 0 c.loop-b-test.true) (wrote_then c.loop-b.invariant c.byte-next.ensures)
