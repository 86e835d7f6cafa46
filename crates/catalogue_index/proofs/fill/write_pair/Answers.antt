-- Nothing is written, or one record behind those that stand.
use Rattle.std.proofs.Common.{◌*◌, length, ap, ◌∙◌, arith}
use Rattle.std.proofs.lemmas.List.Edits.{sets}
use Rattle.catalogue_index.specs.records.Format.{key_from, record_of}
use Rattle.catalogue_index.specs.GrownLaws.{grown-none, grown-one}
use Rattle.catalogue_index.specs.Index.{key_of}
use Rattle.catalogue_index.specs.IndexSteps.{entry-taken, entry-left}
use Rattle.catalogue_index.proofs.fill.write_pair.Goals as goal

pub returns-then-product-pairs-clause-value : goal.returns-then-product-pairs-clause-value
returns-then-product-pairs-clause-value c =
    let x = c.args in
    let p = x.pairs.now in
    rw (entry-left p.stars.now p.floor x.b x.a (omega (arith, c.product-product.ensures))) (omega arith)

pub returns-then-product-pairs-clause-grown : goal.returns-then-product-pairs-clause-grown
returns-then-product-pairs-clause-grown c =
    let x = c.args in
    let p = x.pairs.now in
    rw (entry-left p.stars.now p.floor x.b x.a (omega (arith, c.product-product.ensures))) (grown-none _ _)

pub put-requires : goal.put-requires
put-requires c =
    let x = c.args in
    let p = x.pairs.now in
    omega (arith, ap length (entry-taken p.stars.now p.floor x.b x.a (omega (arith, c.product-product.ensures))))

pub returns-clause-value : goal.returns-clause-value
returns-clause-value c =
    let x = c.args in
    let p = x.pairs.now in
    rw (entry-taken p.stars.now p.floor x.b x.a (omega (arith, c.product-product.ensures))) (omega arith)

pub returns-clause-grown : goal.returns-clause-grown
unfolding key_of
returns-clause-grown c =
    let x = c.args in
    let p = x.pairs.now in
    let e = entry-taken p.stars.now p.floor x.b x.a (omega (arith, c.product-product.ensures)) in
    let k = c.put.ensures ∙ (λ i. sets x.room.now (12 * x.at) (record_of (key_from (c.product-product.ensures i) (c.ends.ensures i)))) in
    rw (e, k) (grown-one x.at (key_of p.stars.now x.a x.b) x.room.now (omega (arith, ap length e)))
