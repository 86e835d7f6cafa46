-- A pair has a record where its dot product reaches the floor.
use Rattle.std.proofs.Common.{◌≡◌, ℕ, length, ap, ◌∙◌, arith}
use Rattle.catalogue_index.specs.Index.{collected, entry_of, row_of}
use Rattle.catalogue_index.specs.IndexSteps.{collected-none, length-next, collected-most, entry-taken, entry-left, entry-most}
use Rattle.catalogue_index.proofs.fill.count_row.Goals as goal
use Rattle.catalogue_index.proofs.fill.count_row.Goals.{then-pairs-product, else-pairs-product}

pub loop-a-init : goal.loop-a-init
loop-a-init c = collected-none _

pub overflow_add-count : goal.overflow_add-count
overflow_add-count c =
    let x = c.args in
    let p = x.pairs.now in
    omega (arith, collected-most (entry_of p.stars.now p.floor x.b) 1 c.loop-a.a (λ i h. entry-most p.stars.now p.floor x.b i))

pub loop-a-preserved : goal.loop-a-preserved
loop-a-preserved c =
    let x = c.args in
    let p = x.pairs.now in
    let a = c.loop-a.a in
    let n = length-next (entry_of p.stars.now p.floor x.b) a in
    elim c.if-pairs-product.branch [
      | then-pairs-product w ↦ omega (arith, ap length (entry-taken p.stars.now p.floor x.b a (omega arith)))
      | else-pairs-product w ↦ omega (arith, ap length (entry-left p.stars.now p.floor x.b a (omega arith)))
    ]

pub returns : goal.returns
unfolding row_of
returns c =
    let x = c.args in
    let p = x.pairs.now in
    let e : c.loop-a.a ≡ x.b = omega arith in
    c.loop-a.invariant ∙ ap (λ (n : ℕ). length (collected n (entry_of p.stars.now p.floor x.b))) e
