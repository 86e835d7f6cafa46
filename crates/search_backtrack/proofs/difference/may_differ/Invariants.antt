-- Of the directions from i on that were passed, none is left to differ.
use Rattle.std.proofs.Common.{ℕ, ◌<◌, ◌≤◌, get_or}
use Rattle.search_backtrack.specs.difference.Other.{NoOther}
use Rattle.search_backtrack.proofs.difference.may_differ.Given as goal

abbrev pub invariant-loop-j : goal.invariant-loop-j
invariant-loop-j l = (k : ℕ) → k < l.j → l.i ≤ k
    → NoOther l.scene.setup l.scene.directions.now l.scene.stars.now l.chosen (get_or l.ours k 0) l.i k
