-- One direction more, which differs or does not.
use Rattle.std.proofs.Common.{sym, arith}
use Rattle.search_theory.proofs.Rival.{differs-start, differs_more, differs-here}
use Rattle.search_backtrack.proofs.difference.Words.{said}
use Rattle.search_backtrack.proofs.difference.differs.Goals as goal

pub loop-i-init : goal.loop-i-init
loop-i-init c = differs-start _ _ _

pub returns-then-words_differ : goal.returns-then-words_differ
returns-then-words_differ c =
    sym (differs-here _ _ _ _ c.loop-i.i (omega arith) (said _ _ _ c.words_differ.ensures c.from.ensures c.from-in-loop-i.ensures c.if-words_differ.true))

pub loop-i-preserved : goal.loop-i-preserved
loop-i-preserved c = differs_more _ _ _ c.loop-i.i c.loop-i.invariant (said _ _ _ c.words_differ.ensures c.from.ensures c.from-in-loop-i.ensures c.if-words_differ.false)
