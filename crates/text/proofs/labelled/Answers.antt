use Rattle.text.specs.WrittenLaws.{wrote_then}
use Rattle.text.proofs.labelled.Goals as goal

pub returns-clause-wrote : goal.returns-clause-wrote
returns-clause-wrote c = wrote_then c.word-next.ensures c.number.ensures.wrote
