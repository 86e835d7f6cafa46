-- The first refusal, or the ranking of the decoded stars; the third promise follows from the first.
use Rattle.std.proofs.Common.{ℕ, ◌*◌, List, ◌++◌, ℤ, drop, sym, ap, ◌∙◌}
use Rattle.std.proofs.lemmas.Result.{err_from_is_err_and}
use Rattle.refusal.specs.Answer.{answer_of}
use Rattle.catalogue.specs.Stars.{stars_of}
use Rattle.vectors.specs.Triples.{triples}
use Rattle.ranking.specs.Ranking.{ranking_of}
use Rattle.ranking.specs.Room.{rank_outcome_of}
use Rattle.ranking.specs.RoomLaws.{answers, accepted-sound, stars-counted, stars-listed, directions-listed, room-kept, room-written}
use Rattle.ranking.proofs.rank.Goals as goal

pub invariant_of-ballot : goal.invariant_of-ballot
unfolding rank_outcome_of
invariant_of-ballot c =
    let s = accepted-sound _ _ _ _ (sym c.in_ok-first_refusal.ensures) in
    let lent = c.all.ensures ∙ c.of-stars.ensures in
    record { listed = directions-listed _ _ _ _ s; listed_2 = rw lent (stars-listed _ _ _ _ s) }

pub write_ranking-requires-clause-stars_in_bounds : goal.write_ranking-requires-clause-stars_in_bounds
unfolding rank_outcome_of
write_ranking-requires-clause-stars_in_bounds c =
    let s = accepted-sound _ _ _ _ (sym c.in_ok-first_refusal.ensures) in
    let lent = c.all.ensures ∙ c.of-stars.ensures in
    let words = ap (λ (n : ℕ). triples c.args.directions.now * n) (stars-counted _ _ _ _ s) in
    rw (lent, words) s.room

pub returns-in_err-first_refusal-clause-value : goal.returns-in_err-first_refusal-clause-value
unfolding rank_outcome_of
returns-in_err-first_refusal-clause-value c =
    let p = err_from_is_err_and c.from_residual.result c.from_residual.ensures.1 in
    rw (p.1, p.2, ← c.in_err-first_refusal.ensures)

pub returns-in_err-first_refusal-clause-room_after : goal.returns-in_err-first_refusal-clause-room_after
unfolding rank_outcome_of
returns-in_err-first_refusal-clause-room_after c =
    let a = c.args in
    sym (room-kept a.directions.now a.catalogue.now a.tolerance a.room.now _ (sym c.in_err-first_refusal.ensures))

pub returns-in_err-first_refusal-clause-result_value : goal.returns-in_err-first_refusal-clause-result_value
returns-in_err-first_refusal-clause-result_value c =
    let a = c.args in
    ap answer_of (returns-in_err-first_refusal-clause-value c) ∙ answers a.directions.now a.catalogue.now a.tolerance a.room.now

pub returns-clause-value : goal.returns-clause-value
unfolding rank_outcome_of
returns-clause-value c = c.in_ok-first_refusal.ensures

pub returns-clause-room_after : goal.returns-clause-room_after
unfolding rank_outcome_of
returns-clause-room_after c =
    let a = c.args in
    let e = sym c.in_ok-first_refusal.ensures in
    let s = accepted-sound _ _ _ _ e in
    let lent = c.all.ensures ∙ c.of-stars.ensures in
    let words = ap (λ (n : ℕ). triples a.directions.now * n) (stars-counted _ _ _ _ s) in
    let written : List ℤ → ℕ → List ℕ = λ stars m. ranking_of a.directions.now stars a.tolerance ++ drop m a.room.now in
    c.write_ranking.ensures ∙ ap (λ (stars : List ℤ). written stars (triples a.directions.now * triples stars)) lent
    ∙ ap (written (stars_of a.catalogue.now)) words
    ∙ sym (room-written a.directions.now a.catalogue.now a.tolerance a.room.now e)

pub returns-clause-result_value : goal.returns-clause-result_value
returns-clause-result_value c =
    let a = c.args in
    ap answer_of (returns-clause-value c) ∙ answers a.directions.now a.catalogue.now a.tolerance a.room.now
