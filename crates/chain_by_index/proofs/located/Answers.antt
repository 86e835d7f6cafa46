-- With the right index the ranking is the plain one.
use Rattle.std.proofs.Common.{◌≡◌, sym, ◌∙◌, subst, List, ℕ, ℤ, w64, to_z, of_z}
use mir.Val.{SFits}
use mir.ValLaws.{to_z-of_z}
use Rattle.frame_list.specs.declared.Report.{Report}
use Rattle.vectors.specs.Triples.{Listed}
use Rattle.catalogue.specs.Stars.{stars_of}
use Rattle.catalogue_index.specs.Index.{index_of}
use Rattle.catalogue_index.specs.BuildLaws.{valid-listed}
use Rattle.ranking_by_index.specs.Call.{call}
use Rattle.ranking_by_index.specs.Stars.{room_from}
use Rattle.ranking_by_index.proofs.Laws.{right-room, valid-room}
use Rattle.chain.specs.declared.Settings.{Settings}
use Rattle.chain.specs.Chain.{sights_of, ranked_room}
use Rattle.chain.specs.ChainLaws.{room-ranked}
use Rattle.chain.specs.Ready.{Ready}
use Rattle.chain.specs.SightingLaws.{padded-lent}
use Rattle.chain_by_index.proofs.located.Goals as goal

-- the room after the ranking
room-is : (report : Report) (bytes index : List ℕ) (floor : ℤ) (s : Settings) (room : List ℕ) {directions stars : List ℤ} {after : List ℕ} → Ready report bytes s room
    → index ≡ index_of (stars_of bytes) floor → SFits w64 floor → directions ≡ sights_of report bytes s → stars ≡ stars_of bytes
    → after ≡ room_from directions stars index (to_z w64 (of_z w64 floor)) s.tolerance room → after ≡ ranked_room report bytes s room
room-is report bytes index floor s room r i f d t e =
    let w = call (sights_of report bytes s) bytes index floor s.tolerance room in
    e
    ∙ (λ j. room_from (d j) (t j) index (to_z-of_z w64 floor f j) s.tolerance room)
    ∙ sym (valid-room w r.catalogue)
    ∙ right-room w i
    ∙ room-ranked _ _ _ _ r

pub rank_right-requires-clause-listed : goal.rank_right-requires-clause-listed
rank_right-requires-clause-listed c =
    let t = c.all.ensures ∙ c.of-stars.ensures in
    subst (Listed 512) (sym t) (valid-listed _ c.requires.ready.catalogue)

pub rank_right-requires-clause-index_value : goal.rank_right-requires-clause-index_value
rank_right-requires-clause-index_value c =
    let t = c.all.ensures ∙ c.of-stars.ensures in
    c.requires.index_value ∙ (λ i. index_of (sym t i) (sym (to_z-of_z w64 c.args.floor c.ranges.floor) i))

pub returns-clause-room_after : goal.returns-clause-room_after
returns-clause-room_after c =
    let a = c.args in
    let r = c.requires.ready in
    let front = (padded-lent a.sighting.report _ a.bytes.now _ r.few r.size c.requires.directions_value).front in
    let t = c.all.ensures ∙ c.of-stars.ensures in
    room-is a.sighting.report a.bytes.now a.index.now a.floor a.settings a.room.now r c.requires.index_value c.ranges.floor (c.sights.ensures ∙ front) t
    c.rank_right.ensures.room_after

pub identified-requires : goal.identified-requires
identified-requires c =
    let a = c.args in
    let r = c.requires.ready in
    let front = (padded-lent a.sighting.report _ a.bytes.now _ r.few r.size c.requires.directions_value).front in
    let t = c.all.ensures ∙ c.of-stars.ensures in
    let ranked = room-is a.sighting.report a.bytes.now a.index.now a.floor a.settings a.room.now r c.requires.index_value c.ranges.floor
    (c.sights.ensures ∙ front) t c.rank_right.ensures.room_after in
    record { before = a.room.now; ready = r; sights = c.sights-2.ensures ∙ front; ranked = ranked }
