-- One product more, and all of them.
use Rattle.std.proofs.Common.{refl, pos, ◌∙◌, arith, length-set, get_or-set_other, w64}
use Rattle.numbers.specs.Num.{kept}
use Rattle.search_fit.proofs.Turns.{zeros-at, one-turn-more, all-turns}
use Rattle.search_fit.proofs.mirror.turns.Goals as goal

pub loop-q-init : goal.loop-q-init
loop-q-init c = record { size = refl; made = λ p l. absurd (omega arith); rest = λ p l. zeros-at 64 p }

pub loop-q-preserved : goal.loop-q-preserved
loop-q-preserved c =
    let l = c.loop-q in
    let e = c.turn_of.ensures in
    let ok = c.turn_of.type_inv in record {
      size = simp length-set l.invariant.size;
      made = one-turn-more _ _ l.turns l.q _ (omega arith) l.invariant.made (λ a b. kept w64 ok (e.value a b), λ n. kept w64 ok (e.value_2 n));
      rest = λ p h. get_or-set_other l.turns l.q p _ (pos 0) (λ f. omega arith) ∙ l.invariant.rest p (omega arith);
    }

pub returns : goal.returns
returns c =
    let i = c.loop-q.invariant in
    all-turns _ _ _ c.requires.0 i.size (λ p lp. i.made p (omega arith)) (λ p lp. i.rest p (omega arith))
