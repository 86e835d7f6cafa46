-- Each call's promise is the next call's input.
use Rattle.std.proofs.Common.{◌≡◌, sym, ap, ◌∙◌, List, ℕ, ℤ, length}
use Rattle.std.specs.Prelude.{Result}
use Rattle.refusal.specs.declared.Refusal.{Refusal}
use Rattle.refusal.specs.Table.{first_applying}
use Rattle.catalogue.specs.Check as catalogue
use Rattle.ranking.specs.Room as ranking
use Rattle.chain.specs.declared.Settings.{Settings}
use Rattle.chain.specs.declared.sight.Sighting.{Sighting}
use Rattle.chain.specs.Chain.{call}
use Rattle.chain.specs.ChainLaws.{room-ranked}
use Rattle.chain.specs.Sighting.{sighting_of, sighted}
use Rattle.chain.proofs.SightingLaws.{sighted-lent, sighted-ready, refused-room, accepted-room}
use Rattle.chain.proofs.locate.ranked.Goals as goal

-- the sighting is the call's own
sighted-is : (samples bytes : List ℕ) (s : Settings) (room : List ℕ) {stars : Result Unit Refusal} {x : Sighting} → stars ≡ first_applying (catalogue.refusals_of bytes)
    → x ≡ sighting_of samples stars s (length room) → x ≡ sighted (call samples bytes s room)
sighted-is samples bytes s room e h = h ∙ ap (λ (o : Result Unit Refusal). sighting_of samples o s (length room)) e

pub sights-requires : goal.sights-requires
sights-requires c =
    let a = c.args in
    let e = sighted-is a.samples.now a.catalogue.now a.settings a.room.now c.catalogue_outcome-stars.ensures.value c.take_sights-sighting.ensures in
    (sighted-lent _ _ e).few

pub returns-in-Err-clause-room_after : goal.returns-in-Err-clause-room_after
returns-in-Err-clause-room_after c =
    let a = c.args in
    let e = sighted-is a.samples.now a.catalogue.now a.settings a.room.now c.catalogue_outcome-stars.ensures.value c.take_sights-sighting.ensures in
    sym (refused-room _ _ e _ c.in-Err.is)

pub returns-in-Ok-clause-room_after : goal.returns-in-Ok-clause-room_after
returns-in-Ok-clause-room_after c =
    let a = c.args in
    let e = sighted-is a.samples.now a.catalogue.now a.settings a.room.now c.catalogue_outcome-stars.ensures.value c.take_sights-sighting.ensures in
    let d = c.sights.ensures ∙ (sighted-lent _ _ e).front in
    c.rank.ensures.room_after
    ∙ ap (λ (ds : List ℤ). ranking.room_after ds a.catalogue.now a.settings.tolerance a.room.now) d
    ∙ room-ranked _ _ _ _ (sighted-ready _ _ e c.in-Ok.is)
    ∙ sym (accepted-room _ _ e c.in-Ok.is)
