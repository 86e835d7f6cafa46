-- The loop of `ranking::write_ranking`: the first i rows are written, and the room is as found behind them.
use Rattle.std.proofs.Common.{◌≡◌, ◌++◌, ◌*◌, drop}
use Rattle.vectors.specs.Triples.{triples}
use Rattle.ranking.specs.Ranking.{rows_of}
use Rattle.ranking.proofs.write_ranking.Given as goal

abbrev pub invariant-loop-i : goal.invariant-loop-i
invariant-loop-i g l =
    l.room ≡ rows_of l.ballot.directions.now l.ballot.stars.now l.ballot.tolerance l.i ++ drop (l.i * triples l.ballot.stars.now) l.initial.room
