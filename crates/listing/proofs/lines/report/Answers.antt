use Rattle.text.specs.WrittenLaws.{wrote_then}
use Rattle.listing.specs.lines.Lines.{report_lines}
use Rattle.listing.proofs.lines.report.Goals as goal

pub returns-clause-wrote : goal.returns-clause-wrote
unfolding report_lines
returns-clause-wrote c = wrote_then c.counts-first.ensures.wrote c.stars.ensures.wrote
