-- The lines of the records passed are written, and the rest is what is left of the list behind them.
use Rattle.std.proofs.Common.{◌*◌, ◌≤◌, length}
use Rattle.std.specs.Slice.Iter.{chunks_exact_rest, chunks_exact_size}
use Rattle.text.specs.Written.{Wrote}
use Rattle.desk_lines.specs.compare.Lines.{lines_to}
use Rattle.desk_lines.specs.compare.LinesLaws.{Left}
use Rattle.desk_lines.proofs.compare.lines.Given as goal

abbrev pub invariant-loop-record : goal.invariant-loop-record
invariant-loop-record l = record {
  wrote : Wrote l.initial.room 0 (lines_to l.list (length l.yielded)) l.room l.next;
  upper_bound : l.next ≤ 29 * length l.yielded;
  left : Left l.list (length l.yielded) (chunks_exact_size l.record-iterator) (chunks_exact_rest l.record-iterator);
}
