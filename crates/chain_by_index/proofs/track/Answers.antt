-- The first refusal of the rows, or what the steps behind the list come to.
use Rattle.std.proofs.Common.{◌≡◌, sym, ap, ◌∙◌, subst, ℤ, length, w64, to_z, of_z}
use Rattle.std.specs.Prelude.{Result}
use mir.Val.{SFits}
use mir.ValLaws.{to_z-of_z}
use Rattle.refusal.specs.declared.Refusal.{Refusal}
use Rattle.refusal.specs.Table.{first_applying}
use Rattle.frame_list.specs.declared.Report.{Report}
use Rattle.catalogue.specs.Stars.{stars_of}
use Rattle.catalogue_index.specs.Index.{index_of}
use Rattle.chain.specs.declared.sight.Sighting.{Sighting}
use Rattle.chain.specs.Chain.{located_of, ranked_room}
use Rattle.chain.specs.Sighting.{sighting_of}
use Rattle.chain.specs.Ready.{Ready}
use Rattle.chain.proofs.ReadyLaws.{ready}
use Rattle.chain_by_index.specs.Chain.{Call, call, stars_rows, refusals_of}
use Rattle.chain_by_index.specs.Laws.{refusals-joined, refused-tracked, refused-room, accepted-right, accepted-plain, accepted-tracked, accepted-room}
use Rattle.chain_by_index.proofs.track.Goals as goal

-- the code's outcome is that of the rows, by the floor as it was handed in
outcome-is : (c : Call) {stars : Result Unit Refusal} {x : Sighting} {o : Result Unit Refusal} → SFits w64 c.floor
    → stars ≡ first_applying (stars_rows c.chain.catalogue c.index (to_z w64 (of_z w64 c.floor)))
    → x ≡ sighting_of c.chain.samples stars c.chain.settings (length c.chain.room) → x.outcome ≡ o → first_applying (refusals_of c) ≡ o
outcome-is c f e t h =
    let s = e ∙ ap (λ (z : ℤ). first_applying (stars_rows c.chain.catalogue c.index z)) (to_z-of_z w64 c.floor f) in
    refusals-joined c
    ∙ (λ i. (sighting_of c.chain.samples (sym s i) c.chain.settings (length c.chain.room)).outcome)
    ∙ sym (ap (λ (y : Sighting). y.outcome) t)
    ∙ h

pub located-requires-clause-ready : goal.located-requires-clause-ready
located-requires-clause-ready c =
    let a = c.args in
    let w = call a.samples.now a.catalogue.now a.index.now a.floor a.settings a.room.now in
    let h = outcome-is w c.ranges.floor c.stars_outcome-stars.ensures c.take_sights-sighting.ensures c.in-Ok.is in
    let r = ap (λ (x : Sighting). x.report) c.take_sights-sighting.ensures in
    subst (λ (x : Report). Ready x a.catalogue.now a.settings a.room.now) (sym r) (ready w.chain (accepted-plain w h))

pub located-requires-clause-index_value : goal.located-requires-clause-index_value
located-requires-clause-index_value c =
    let a = c.args in
    let w = call a.samples.now a.catalogue.now a.index.now a.floor a.settings a.room.now in
    let h = outcome-is w c.ranges.floor c.stars_outcome-stars.ensures c.take_sights-sighting.ensures c.in-Ok.is in
    accepted-right w h ∙ ap (index_of (stars_of a.catalogue.now)) (sym (to_z-of_z w64 a.floor c.ranges.floor))

pub returns-in-Err-clause-value : goal.returns-in-Err-clause-value
returns-in-Err-clause-value c =
    let a = c.args in
    let w = call a.samples.now a.catalogue.now a.index.now a.floor a.settings a.room.now in
    c.refused.ensures ∙ sym (refused-tracked w _ (outcome-is w c.ranges.floor c.stars_outcome-stars.ensures c.take_sights-sighting.ensures c.in-Err.is))

pub returns-in-Err-clause-room_after : goal.returns-in-Err-clause-room_after
returns-in-Err-clause-room_after c =
    let a = c.args in
    let w = call a.samples.now a.catalogue.now a.index.now a.floor a.settings a.room.now in
    sym (refused-room w _ (outcome-is w c.ranges.floor c.stars_outcome-stars.ensures c.take_sights-sighting.ensures c.in-Err.is))

pub returns-in-Ok-clause-value : goal.returns-in-Ok-clause-value
returns-in-Ok-clause-value c =
    let a = c.args in
    let w = call a.samples.now a.catalogue.now a.index.now a.floor a.settings a.room.now in
    let h = outcome-is w c.ranges.floor c.stars_outcome-stars.ensures c.take_sights-sighting.ensures c.in-Ok.is in
    c.located.ensures.value ∙ ap (λ (x : Sighting). located_of x.report a.catalogue.now a.settings) c.take_sights-sighting.ensures
    ∙ sym (accepted-tracked w h)

pub returns-in-Ok-clause-room_after : goal.returns-in-Ok-clause-room_after
returns-in-Ok-clause-room_after c =
    let a = c.args in
    let w = call a.samples.now a.catalogue.now a.index.now a.floor a.settings a.room.now in
    let h = outcome-is w c.ranges.floor c.stars_outcome-stars.ensures c.take_sights-sighting.ensures c.in-Ok.is in
    c.located.ensures.room_after ∙ ap (λ (x : Sighting). ranked_room x.report a.catalogue.now a.settings a.room.now) c.take_sights-sighting.ensures
    ∙ sym (accepted-room w h)
