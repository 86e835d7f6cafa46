-- Each star from place j on is another, and agrees.
use Rattle.std.proofs.Common.{◌≡◌, ℕ, ◌<◌, ◌≤◌, true, get_or, pos}
use Rattle.vectors.specs.Agree.{agreeing}
use Rattle.vectors.specs.Triples.{pair_dot}
use Rattle.search_fit.proofs.stands_beside.Given as goal

abbrev pub invariant-loop-j : goal.invariant-loop-j
invariant-loop-j l = (q : ℕ) → q < l.i → l.j ≤ q → get_or l.look.chosen.now q 0 < l.look.count →
    (get_or l.look.chosen.now q 0 ≡ l.star → ⊥) × (agreeing (get_or l.look.dots.now q (pos 0)) (pair_dot l.look.stars.now (get_or l.look.chosen.now q 0) l.star) l.look.tolerance ≡ true)
