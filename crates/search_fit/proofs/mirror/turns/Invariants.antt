-- The products made so far are right.
use Rattle.std.proofs.Common.{◌≡◌, length}
use Rattle.search_fit.proofs.Turns.{TurnsTo, ZerosFrom}
use Rattle.search_fit.proofs.mirror.turns.Given as goal

abbrev pub invariant-loop-q : goal.invariant-loop-q
invariant-loop-q l = record {
  size : length l.turns ≡ 64;
  made : TurnsTo l.directions l.i l.turns l.q;
  rest : ZerosFrom l.turns l.q;
}
