-- The numbers before the count are the list. Assumes nothing.
use Rattle.catalogue.specs.Stars.{stars_of}
use Rattle.catalogue.specs.StarsLaws.{stars-length}
use Rattle.catalogue.specs.Filled.{padded-front}
use Rattle.catalogue.proofs.decoded.Stars.of.Goals as goal

pub returns : goal.returns
returns c =
    let bytes = c.args.bytes.now in
    rw (c.fill.ensures, c.stars_in.ensures) (padded-front (stars_of bytes) _ (stars-length bytes))
