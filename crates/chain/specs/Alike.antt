-- Magnitudes have no say in the chain: for two valid catalogues with the same identities and directions it gives the same answer and leaves the same words in
-- the room. Assumes nothing.
use Rattle.std.specs.Prelude.{◌≡◌, List, ◌++◌, ℕ, ◌*◌, length}
use Rattle.std.proofs.Math.Path.{refl, ap}
use Rattle.std.proofs.Common.{◌∙◌}
use Rattle.std.proofs.Math.ListN.{drop}
use Rattle.refusal.specs.Table.{first_applying, answered}
use Rattle.frame_list.specs.declared.Report.{Report}
use Rattle.frame_list.specs.input.Input.{frame_rows}
use Rattle.catalogue.specs.Alike.{Alike, stars-same, rows_same}
use Rattle.ranking.specs.Alike.{ranking-same}
use Rattle.search.specs.Identified.{identification_of}
use Rattle.search.specs.Alike.{search-same}
use Rattle.chain.specs.declared.Settings.{Settings}
use Rattle.attitude.specs.orient.Orient.{orientation_of}
use Rattle.chain.specs.Chain.{refused_with, oriented, settled_of, sights_of, our_ranking, our_identification, located_of, ranked_room, Call, call, listed, settings_rows, demand_rows, refusals_of, tracked_of, room_after, names_of}

module _ {first second : List ℕ} (a : Alike first second) where
  -- ---- the steps behind the frame's list

  module _ (report : Report) (s : Settings) where
    sights-same : sights_of report first s ≡ sights_of report second s
    unfolding sights_of
    sights-same = refl

    pub our-ranking-same : our_ranking report first s ≡ our_ranking report second s
    unfolding our_ranking sights_of
    our-ranking-same = ranking-same a (sights_of report first s) s.tolerance

    pub our-search-same : our_identification report first s ≡ our_identification report second s
    unfolding our_identification sights_of
    our-search-same =
        search-same a (sights_of report first s) s.needed s.tolerance (our_ranking report first s)
        ∙ ap (identification_of (sights_of report second s) second s.needed s.tolerance) our-ranking-same

    located-same : located_of report first s ≡ located_of report second s
    unfolding located_of settled_of sights_of
    located-same =
        (λ j.
        answered refused_with (oriented report (our-search-same j).stars (orientation_of (sights_of report first s) (stars-same a j) (our-search-same j).stars))
        (our-search-same j).outcome)

    ranked-same : (room : List ℕ) → ranked_room report first s room ≡ ranked_room report second s room
    unfolding ranked_room
    ranked-same room = (λ j. our-ranking-same j ++ drop (report.count * a.count j) room)

  -- ---- the call

  module _ (samples : List ℕ) (s : Settings) (room : List ℕ) where
    abbrev one : Call
    one = call samples first s room

    abbrev other : Call
    other = call samples second s room

    pub outcome-same : first_applying (refusals_of one) ≡ first_applying (refusals_of other)
    unfolding refusals_of
    outcome-same =
        (λ j.
        first_applying
        (frame_rows samples s.width s.height s.threshold
        ++ (settings_rows s ++ (rows_same a j ++ demand_rows s (length room) (listed one).report.count))))

    pub chain_same : tracked_of one ≡ tracked_of other
    unfolding tracked_of
    chain_same = (λ j. answered refused_with (located-same (listed one).report s j) (outcome-same j))

    pub room-same : room_after one ≡ room_after other
    unfolding room_after
    room-same = (λ j. answered (λ _. room) (ranked-same (listed one).report s room j) (outcome-same j))

    -- the names behind 13 or 14, over whatever ranking is lent
    pub names_same : names_of samples first s room ≡ names_of samples second s room
    unfolding names_of sights_of
    names_same = search-same a (sights_of (listed one).report first s) s.needed s.tolerance room
