-- No word passed clashes, and the table marks just those.
use Rattle.std.proofs.Common.{◌≡◌, ℕ, ◌<◌, false}
use Rattle.search.specs.Once.{clash}
use Rattle.search.proofs.Seen.{Seen}
use Rattle.search.proofs.lent.first_clash.Given as goal

abbrev pub invariant-loop-k : goal.invariant-loop-k
invariant-loop-k l = record {
  free : (n : ℕ) → n < l.k → clash l.row l.stars 0 n ≡ false;
  seen : Seen l.row 0 l.k l.seen;
}
