-- The first of 8, 9 and 10 that applies, or the ranking: the test of the index would pass.
use Rattle.std.proofs.Common.{length, sym, ap, ◌∙◌, w64}
use mir.ValLaws.{to_z-of_z}
use Rattle.std.proofs.lemmas.Result.{err_from_is_err_and}
use Rattle.vectors.specs.Triples.{triples}
use Rattle.ranking.specs.RoomLaws.{beside-sound}
use Rattle.catalogue_index.specs.Raised.{raised}
use Rattle.catalogue_index.specs.Index.{bytes_from}
use Rattle.catalogue_index.specs.IndexSteps.{index_is}
use Rattle.catalogue_index.specs.CheckLaws.{is-index}
use Rattle.ranking_by_index.specs.Steps.{refused-from, written_from}
use Rattle.ranking_by_index.proofs.StepLaws.{right-from}
use Rattle.ranking_by_index.proofs.rank_right.Goals as goal

pub invariant_of-ballot : goal.invariant_of-ballot
invariant_of-ballot c =
    let a = c.args in
    let s = beside-sound a.directions.now (triples a.stars.now) a.tolerance (length a.room.now) (sym c.in_ok-beside.ensures) in
    record { listed = record { few = s.0.most; near = s.0.within }; listed_2 = c.requires.listed }

pub invariant_of-indexed : goal.invariant_of-indexed
invariant_of-indexed c =
    let a = c.args in
    let s = beside-sound a.directions.now (triples a.stars.now) a.tolerance (length a.room.now) (sym c.in_ok-beside.ensures) in
    record {
      tolerance_bound = s.1;
      index_value =
          c.requires.index_value
          ∙ sym (index_is a.stars.now a.floor)
          ∙ ap (bytes_from a.stars.now) (sym (c.raise-raised.ensures ∙ ap raised (to_z-of_z w64 a.floor c.ranges.floor)));
    }

pub write_ranking-requires-clause-stars_in_bounds : goal.write_ranking-requires-clause-stars_in_bounds
write_ranking-requires-clause-stars_in_bounds c =
    let a = c.args in
    (beside-sound a.directions.now (triples a.stars.now) a.tolerance (length a.room.now) (sym c.in_ok-beside.ensures)).2

pub returns-in_err-beside-clause-value : goal.returns-in_err-beside-clause-value
returns-in_err-beside-clause-value c =
    let a = c.args in
    let p = err_from_is_err_and c.from_residual.result c.from_residual.ensures.1 in
    rw (p.1, p.2)
    (sym (right-from a.directions.now a.stars.now a.index.now a.floor a.tolerance (length a.room.now)
    (is-index a.stars.now a.floor a.index.now c.requires.index_value) ∙ sym c.in_err-beside.ensures))

pub returns-in_err-beside-clause-room_after : goal.returns-in_err-beside-clause-room_after
returns-in_err-beside-clause-room_after c =
    let a = c.args in
    sym (refused-from a.directions.now a.stars.now a.index.now a.floor a.tolerance a.room.now _
    (right-from a.directions.now a.stars.now a.index.now a.floor a.tolerance (length a.room.now)
    (is-index a.stars.now a.floor a.index.now c.requires.index_value) ∙ sym c.in_err-beside.ensures))

pub returns-clause-value : goal.returns-clause-value
returns-clause-value c =
    let a = c.args in
    sym (right-from a.directions.now a.stars.now a.index.now a.floor a.tolerance (length a.room.now)
    (is-index a.stars.now a.floor a.index.now c.requires.index_value) ∙ sym c.in_ok-beside.ensures)

pub returns-clause-room_after : goal.returns-clause-room_after
returns-clause-room_after c =
    let a = c.args in
    c.write_ranking.ensures
    ∙ sym (written_from a.directions.now a.stars.now a.index.now a.floor a.tolerance a.room.now
    (right-from a.directions.now a.stars.now a.index.now a.floor a.tolerance (length a.room.now)
    (is-index a.stars.now a.floor a.index.now c.requires.index_value) ∙ sym c.in_ok-beside.ensures))
