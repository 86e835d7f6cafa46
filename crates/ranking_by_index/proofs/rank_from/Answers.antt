-- `ranking_by_index::rank_from`: 17 first, and behind it what the right index gives. Assumes nothing.
use Rattle.std.proofs.Common.{ℤ, length, sym, ap, ◌∙◌, w64}
use mir.ValLaws.{to_z-of_z}
use Rattle.catalogue_index.specs.Check.{is_index}
use Rattle.catalogue_index.specs.CheckLaws.{index-true}
use Rattle.catalogue_index.specs.Index.{index_of}
use Rattle.ranking_by_index.specs.Steps.{refused-from}
use Rattle.ranking_by_index.proofs.StepLaws.{wrong-from}
use Rattle.ranking_by_index.proofs.rank_from.Goals as goal

pub returns-then-not-matches-clause-value : goal.returns-then-not-matches-clause-value
returns-then-not-matches-clause-value c =
    let a = c.args in
    let tested = c.matches.ensures ∙ ap (λ (f : ℤ). is_index a.stars.now f a.index.now) (to_z-of_z w64 a.floor c.ranges.floor) in
    c.plain.ensures ∙ sym (wrong-from a.directions.now a.stars.now a.index.now a.floor a.tolerance (length a.room.now) (sym tested ∙ c.if-not-matches.true))

pub returns-then-not-matches-clause-room_after : goal.returns-then-not-matches-clause-room_after
returns-then-not-matches-clause-room_after c =
    let a = c.args in
    let tested = c.matches.ensures ∙ ap (λ (f : ℤ). is_index a.stars.now f a.index.now) (to_z-of_z w64 a.floor c.ranges.floor) in
    sym (refused-from a.directions.now a.stars.now a.index.now a.floor a.tolerance a.room.now _
    (wrong-from a.directions.now a.stars.now a.index.now a.floor a.tolerance (length a.room.now) (sym tested ∙ c.if-not-matches.true)))

pub rank_right-requires-clause-index_value : goal.rank_right-requires-clause-index_value
rank_right-requires-clause-index_value c =
    let a = c.args in
    let tested = c.matches.ensures ∙ ap (λ (f : ℤ). is_index a.stars.now f a.index.now) (to_z-of_z w64 a.floor c.ranges.floor) in
    index-true a.stars.now a.floor a.index.now (sym tested ∙ c.if-not-matches.false)
    ∙ ap (index_of a.stars.now) (sym (to_z-of_z w64 a.floor c.ranges.floor))
