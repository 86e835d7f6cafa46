use Rattle.text.specs.WrittenLaws.{wrote_then}
use Rattle.listing.specs.lines.Lines.{star_line}
use Rattle.listing.proofs.lines.star.Goals as goal

pub returns-clause-wrote : goal.returns-clause-wrote
unfolding star_line
returns-clause-wrote c = wrote_then (wrote_then c.place-placed.ensures.wrote c.name-named.ensures.wrote) c.word.ensures
