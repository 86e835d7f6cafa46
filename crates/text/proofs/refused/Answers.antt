-- The number and the place behind the word.
use Rattle.text.specs.Refused.{refusal_line}
use Rattle.text.specs.WrittenLaws.{wrote_then}
use Rattle.text.proofs.refused.Goals as goal

pub returns-clause-wrote : goal.returns-clause-wrote
unfolding refusal_line
returns-clause-wrote c =
    wrote_then (wrote_then c.labelled-number.ensures.wrote c.labelled-place.ensures.wrote) c.word.ensures
