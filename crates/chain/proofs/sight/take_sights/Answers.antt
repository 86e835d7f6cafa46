-- Any frame's list has stars that have directions.
use Rattle.chain.proofs.SightingLaws.{listed-sighted}
use Rattle.chain.proofs.sight.take_sights.Goals as goal

pub directions_of-directions-requires : goal.directions_of-directions-requires
directions_of-directions-requires c =
    let s = listed-sighted c.args.samples.now c.args.settings c.list-listing.ensures in
    (s.few, s.placed)
