use Rattle.text.specs.WrittenLaws.{wrote_then}
use Rattle.listing.specs.lines.Lines.{matrix_lines}
use Rattle.listing.proofs.lines.matrix.Goals as goal

pub returns-clause-wrote : goal.returns-clause-wrote
unfolding matrix_lines
returns-clause-wrote c = wrote_then (wrote_then c.row-first.ensures.wrote c.row-second.ensures.wrote) c.row.ensures.wrote
