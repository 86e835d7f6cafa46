-- `ranking_votes::products_of`: each product is stored at its direction's place. Assumes nothing.
use Rattle.std.proofs.Common.{◌∙◌, ◌<◌, pos, length, refl, arith, get_or-set_same, get_or-set_other, below_none, below_more, length-set}
use mir.Syntax.{w64}
use Rattle.numbers.specs.Num.{arg, near, kept}
use Rattle.ranking_votes.proofs.Store.{within-zeros, within-set}
use Rattle.ranking_votes.proofs.products_of.Goals as goal

pub loop-j-init : goal.loop-j-init
loop-j-init c = (refl, below_none _, within-zeros 8 _)

pub loop-j-preserved : goal.loop-j-preserved
loop-j-preserved c =
    let l = c.loop-j in
    let e = c.pair_dot.ensures in
    let h : l.j < length l.products = omega arith in (
      simp length-set l.invariant.0,
      below_more _ _
          (λ k p. get_or-set_other l.products l.j k _ (pos 0) (λ q. omega arith) ∙ l.invariant.1 k p)
          (get_or-set_same l.products l.j _ (pos 0) h ∙ kept w64 c.pair_dot.type_inv e.value),
      within-set l.products l.j _ h l.invariant.2 (near (arg {w = w64} e.within tt) tt),
    )

pub returns : goal.returns
returns c = record { by_index = λ j h. c.loop-j.invariant.1 j (omega arith); all_within = c.loop-j.invariant.2; eight = c.loop-j.invariant.0 }
