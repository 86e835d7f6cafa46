use Rattle.text.specs.WrittenLaws.{wrote_then}
use Rattle.desk_lines.proofs.compare.line.Goals as goal

pub returns-clause-wrote : goal.returns-clause-wrote
returns-clause-wrote c = wrote_then c.label-next.ensures.wrote c.word.ensures
