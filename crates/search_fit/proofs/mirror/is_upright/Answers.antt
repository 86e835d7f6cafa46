-- A second star that makes a mirror image decides; otherwise all of them are asked.
use Rattle.std.proofs.Common.{◌≡◌, ℕ, ◌<◌, Bool, not, ltb, List, get_or, ℤ, sym, arith}
use borrow.Author.Tests.{ltb-true, lt-ltb}
use Rattle.search_theory.specs.Fit.{threes}
use Rattle.lists.specs.Tests.{all, given}
use Rattle.search_theory.proofs.Tests.{all-false, all_of, given-of, given-false}
use Rattle.search_fit.specs.Fit.{mirrored_by, upright}
use Rattle.search_fit.proofs.mirror.is_upright.Goals as goal

-- what the test said of the second star that was read
told : (stars turns : List ℤ) (chosen : List ℕ) (count i star k : ℕ) {a b : ℕ} {v : Bool} → a ≡ b
    → v ≡ all k (λ j. given (ltb (get_or chosen j 0) count) (not (mirrored_by stars turns j k i (get_or chosen j 0) a star)))
    → all k (λ j. given (ltb (get_or chosen j 0) count) (not (mirrored_by stars turns j k i (get_or chosen j 0) b star))) ≡ v
told stars turns chosen count i star k e h = rw (← e) (sym h)

pub returns-then-not-upright_beside : goal.returns-then-not-upright_beside
unfolding upright threes
returns-then-not-upright_beside c =
    let w = c.args.look.now in
    let l : get_or w.chosen.now c.loop-k.k 0 < w.count = omega arith in
    sym (all-false _ _ c.loop-k.k (omega arith) (given-false _ _ (lt-ltb _ _ l) (told w.stars.now c.args.turns.now w.chosen.now w.count c.args.i
    c.args.star c.loop-k.k c.index-second.ensures c.if-not-upright_beside.ensures)))

pub returns : goal.returns
unfolding upright threes
returns c = sym (all_of _ _ (λ q l. given-of _ _ (λ t. c.loop-k.invariant q (omega arith) (ltb-true _ _ t))))
