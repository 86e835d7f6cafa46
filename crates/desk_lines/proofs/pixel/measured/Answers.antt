-- Position and brightness behind the word.
use Rattle.text.specs.WrittenLaws.{wrote_then}
use Rattle.desk_lines.specs.Why.{measured_line}
use Rattle.desk_lines.proofs.pixel.measured.Goals as goal

pub returns-clause-wrote : goal.returns-clause-wrote
unfolding measured_line
returns-clause-wrote c = wrote_then (wrote_then (wrote_then c.labelled-x.ensures.wrote c.labelled-y.ensures.wrote) c.labelled-brightness.ensures.wrote) c.word.ensures
