-- Any frame's list has stars that have directions, and the search says the rest.
use Rattle.std.proofs.Common.{ap, ◌∙◌, List, ℤ, arith}
use Rattle.frame_list.specs.declared.Listing.{Listing}
use Rattle.search.specs.Identified.{identification_of}
use Rattle.chain.specs.Chain.{sights_of, names_of}
use Rattle.chain.specs.SightingLaws.{padded-lent}
use Rattle.chain.proofs.SightingLaws.{listed-sighted}
use Rattle.chain.proofs.names.Goals as goal

pub directions_of-numbers-requires : goal.directions_of-numbers-requires
directions_of-numbers-requires c =
    let s = listed-sighted c.args.samples.now c.args.settings c.list-listing.ensures in
    (s.few, s.placed)

pub overflow_mul-end : goal.overflow_mul-end
overflow_mul-end c =
    record { fits = omega (arith, (listed-sighted c.args.samples.now c.args.settings c.list-listing.ensures).few) }

pub slice_bounds-numbers-end : goal.slice_bounds-numbers-end
slice_bounds-numbers-end c =
    let s = listed-sighted c.args.samples.now c.args.settings c.list-listing.ensures in
    (padded-lent c.list-listing.result.report _ c.args.catalogue.now c.args.settings s.few s.size c.directions_of-numbers.ensures).within

pub slice_bounds-search-end : goal.slice_bounds-search-end
slice_bounds-search-end c =
    let s = listed-sighted c.args.samples.now c.args.settings c.list-listing.ensures in
    (padded-lent c.list-listing.result.report _ c.args.catalogue.now c.args.settings s.few s.size c.directions_of-numbers.ensures).part

pub returns : goal.returns
unfolding names_of
returns c =
    let a = c.args in
    let s = listed-sighted a.samples.now a.settings c.list-listing.ensures in
    let front = (padded-lent c.list-listing.result.report _ a.catalogue.now a.settings s.few s.size c.directions_of-numbers.ensures).front in
    c.search.ensures.1
    ∙ ap (λ (ds : List ℤ). identification_of ds a.catalogue.now a.settings.needed a.settings.tolerance a.ranking.now) front
    ∙ ap (λ (x : Listing). identification_of (sights_of x.report a.catalogue.now a.settings) a.catalogue.now a.settings.needed
    a.settings.tolerance a.ranking.now) c.list-listing.ensures
