use Rattle.text.specs.WrittenLaws.{wrote_then}
use Rattle.listing.specs.lines.Lines.{star_place}
use Rattle.listing.proofs.lines.place.Goals as goal

pub returns-clause-wrote : goal.returns-clause-wrote
unfolding star_place
returns-clause-wrote c =
    wrote_then (wrote_then (wrote_then (wrote_then c.number-number.ensures.wrote c.labelled-x.ensures.wrote) c.labelled-y.ensures.wrote)
    c.labelled-brightness.ensures.wrote) c.word.ensures
