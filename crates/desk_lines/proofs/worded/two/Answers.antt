use Rattle.text.specs.WrittenLaws.{wrote_then}
use Rattle.desk_lines.proofs.worded.two.Goals as goal

pub returns-clause-wrote : goal.returns-clause-wrote
returns-clause-wrote c = wrote_then (wrote_then c.labelled-first.ensures.wrote c.labelled-second.ensures.wrote) c.word.ensures
