use Rattle.text.specs.WrittenLaws.{wrote_then}
use Rattle.listing.specs.lines.Lines.{counts_line}
use Rattle.listing.proofs.lines.counts.Goals as goal

pub returns-clause-wrote : goal.returns-clause-wrote
unfolding counts_line
returns-clause-wrote c =
    wrote_then (wrote_then (wrote_then c.labelled-measured.ensures.wrote c.labelled-edge.ensures.wrote) c.labelled-lone.ensures.wrote) c.word.ensures
