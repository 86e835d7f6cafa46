use Rattle.text.specs.WrittenLaws.{wrote_then}
use Rattle.desk_lines.proofs.worded.one.Goals as goal

pub returns-clause-wrote : goal.returns-clause-wrote
returns-clause-wrote c = wrote_then c.labelled-end.ensures.wrote c.word.ensures
