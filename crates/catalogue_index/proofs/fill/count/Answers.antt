-- No star has more pairs than there are stars before it.
use Rattle.std.proofs.Common.{◌≡◌, ℕ, ◌+◌, ◌≤◌, List, length, ℤ, ap, ◌∙◌, arith}
use Rattle.vectors.specs.Triples.{triples}
use Rattle.catalogue_index.specs.Index.{collected, row_of, pairs_of}
use Rattle.catalogue_index.specs.IndexSteps.{collected-none, length-next, pairs-most}
use Rattle.catalogue_index.proofs.fill.count.Goals as goal

few : (stars : List ℤ) (floor n : ℕ) → n ≤ 512 → length (collected n (row_of stars floor)) ≤ 262144
unfolding pairs_of
few stars floor n h = omega (arith, pairs-most stars floor n h)

pub loop-b-init : goal.loop-b-init
loop-b-init c = collected-none _

pub overflow_add-found : goal.overflow_add-found
overflow_add-found c =
    let p = c.args.pairs.now in
    let b = c.loop-b.b in
    omega (arith, length-next (row_of p.stars.now p.floor) b, few p.stars.now p.floor (b + 1) (omega (arith, p.listed.few)))

pub loop-b-preserved : goal.loop-b-preserved
loop-b-preserved c = let p = c.args.pairs.now in omega (arith, length-next (row_of p.stars.now p.floor) c.loop-b.b)

pub returns-clause-value : goal.returns-clause-value
unfolding pairs_of
returns-clause-value c =
    let p = c.args.pairs.now in
    let e : c.loop-b.b ≡ triples p.stars.now = omega arith in
    c.loop-b.invariant ∙ ap (λ (n : ℕ). length (collected n (row_of p.stars.now p.floor))) e

pub returns-clause-few : goal.returns-clause-few
returns-clause-few c =
    let p = c.args.pairs.now in
    omega (arith, few p.stars.now p.floor c.loop-b.b (omega (arith, p.listed.few)))
