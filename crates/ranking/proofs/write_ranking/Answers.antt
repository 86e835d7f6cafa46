-- `ranking::write_ranking`: each row has its own stretch of the room, and goes by its direction's counters. Assumes nothing.
use Rattle.std.specs.Prelude.{◌≡◌, List, ℕ, ◌*◌, ◌++◌, ◌≤◌, drop, length}
use Rattle.std.proofs.Common.{ap, ◌∙◌, arith, subst, sym, take, ◌+◌, ◌-◌}
use Rattle.vectors.specs.Triples.{triples}
use Rattle.ranking.specs.row.Row.{row_by}
use Rattle.ranking.specs.Ranking.{rows_of, ranking_of}
use Rattle.ranking.specs.Rows.{rows_none, rows_more, row-by-counters, row_fits, mid-length}
use Rattle.ranking.proofs.write_ranking.Goals as goal

pub loop-i-init : goal.loop-i-init
loop-i-init g c = rows_none _ _ _ _

pub loop-i-preserved : goal.loop-i-preserved
loop-i-preserved g c =
    let b = c.args.ballot.now in
    let l = c.loop-i in
    let row : List ℕ = c.write.new.row in
    let w = c.total-words.result in
    let room : triples b.directions.now * w ≤ length c.args.room.now =
    subst (λ (m : ℕ). triples b.directions.now * m ≤ length c.args.room.now) (sym c.total-words.ensures) c.requires.stars_in_bounds in
    let end : l.i * w + w ≤ triples b.directions.now * w = row_fits (triples b.directions.now) w l.i (omega arith) in
    let long = mid-length l.room (l.i * w) (l.i * w + w - l.i * w) (omega (arith, room, end, l.auto.room)) in
    let counted = c.requires.right l.i c.votes_for-votes.result (omega arith) c.votes_for-votes.ensures in
    let ranked =
    c.write.ensures ∙ ap (λ (v : List ℕ). row_by v (length (take (l.i * w + w - l.i * w) (drop (l.i * w) l.room)))) counted
    ∙ row-by-counters b.directions.now b.stars.now b.tolerance l.i _ (omega (arith, long, c.total-words.ensures)) b.listed_2.few in
    let written = rows_more b.directions.now b.stars.now b.tolerance c.args.room.now l.room row l.i l.invariant ranked in
    subst
    (λ (m : ℕ). take (l.i * m) l.room ++ (row ++ drop (l.i * m + m - l.i * m) (drop (l.i * m) l.room))
    ≡ rows_of b.directions.now b.stars.now b.tolerance (l.i + 1) ++ drop ((l.i + 1) * triples b.stars.now) c.args.room.now)
    (sym c.total-words.ensures) written

pub returns : goal.returns
unfolding ranking_of
returns g c =
    let p = c.loop-i in
    let b = c.args.ballot.now in
    let e : p.i ≡ triples b.directions.now = omega arith in
    subst (λ (i : ℕ). p.room ≡ rows_of b.directions.now b.stars.now b.tolerance i ++ drop (i * triples b.stars.now) c.args.room.now) e p.invariant
