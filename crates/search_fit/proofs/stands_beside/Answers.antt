-- A word that is the star, or does not agree, decides; otherwise all of them are asked.
use Rattle.std.proofs.Common.{◌≡◌, ◌-◌, get_or, sym, inl, inr, arith}
use Rattle.search_theory.proofs.Fit.{pairs-false, pairs_of}
use Rattle.search_fit.specs.Fit.{besides}
use Rattle.search_fit.proofs.stands_beside.Goals as goal
use Rattle.search_fit.proofs.stands_beside.Goals.{then-is_taken-via-then-is_taken, then-is_taken-via-else-is_taken+then-not-agrees}

pub returns-then-is_taken : goal.returns-then-is_taken
unfolding besides
returns-then-is_taken c =
    let e : get_or c.args.look.now.chosen.now (c.loop-j.j - 1) 0 ≡ c.index-other.result = sym c.index-other.ensures in
    sym (pairs-false _ _ _ _ _ (c.loop-j.j - 1) (omega arith) (omega arith) (elim c.then-is_taken.branch [
      | then-is_taken-via-then-is_taken w ↦ inl (omega (arith, w.if-is_taken))
      | then-is_taken-via-else-is_taken+then-not-agrees w ↦ inr (rw e (grind arith))
    ]))

pub returns : goal.returns
unfolding besides
returns c = sym (pairs_of _ _ _ _ _ (λ q l. c.loop-j.invariant q l (omega arith)))
