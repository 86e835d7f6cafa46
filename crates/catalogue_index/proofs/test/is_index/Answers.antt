-- Where all records keep their rule, the bytes are the index, and of the index each record does.
use Rattle.std.proofs.Common.{arith}
use Rattle.catalogue_index.specs.Check.{Says, RecordOk}
use Rattle.catalogue_index.specs.CheckLaws.{says-yes, says-no, says-record, index-size, ok-all, all-ok}
use Rattle.catalogue_index.proofs.test.is_index.Goals as goal

pub returns-then-index-count : goal.returns-then-index-count
returns-then-index-count c =
    let p = c.args.pairs.now in
    says-no (λ e. omega (arith, index-size p.stars.now p.floor c.args.index.now p.listed (λ n. (c.type_inv.index n).fits) e))

pub returns-then-not-record_ok : goal.returns-then-not-record_ok
returns-then-not-record_ok c =
    let p = c.args.pairs.now in
    let i = c.loop-i.i in
    let says : Says c.record_ok.result (RecordOk p.stars.now p.floor c.args.index.now i) =
    says-record _ _ _ i c.loop-i.invariant.before c.read-entry.ensures.high c.read-entry.ensures.low c.record_ok.ensures in
    says-no (λ e. says.fails c.if-not-record_ok.true (ok-all p.stars.now p.floor c.args.index.now p.listed (λ n. (c.type_inv.index n).fits) e i (omega arith)))

pub returns : goal.returns
returns c =
    let p = c.args.pairs.now in
    says-yes (all-ok p.stars.now p.floor c.args.index.now p.listed (λ n. (c.type_inv.index n).fits) c.count-count.result c.count-count.ensures.value (omega arith)
    (λ i h. c.loop-i.invariant.ok i (omega arith)))
