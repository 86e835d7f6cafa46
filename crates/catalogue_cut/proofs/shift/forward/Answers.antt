-- One more record is passed. Assumes nothing.
use Rattle.std.proofs.Common.{arith, sym, ◌∙◌, ◌+◌, ◌*◌, eqb}
use Rattle.std.proofs.lemmas.List.Edits.{sets}
use Rattle.catalogue_cut.proofs.Shifted.{moved-start, moved-next}
use Rattle.catalogue_cut.specs.Shifted.{added}
use Rattle.lists.specs.Number.{one}
use Rattle.catalogue.specs.Format.{record_size}
use Rattle.catalogue_cut.proofs.marks.Numbers.{number-at}
use Rattle.catalogue_cut.proofs.shift.forward.Goals as goal

pub loop-i-init : goal.loop-i-init
loop-i-init c = moved-start _ _

pub loop-i-preserved : goal.loop-i-preserved
loop-i-preserved c =
    let l = c.loop-i in
    let p = c.pass-kept.ensures in
    let n = sym (number-at c.args.marks.now l.i) in
    moved-next l.invariant (omega arith)
    (p.value ∙ (λ j. l.kept + one (eqb (n j) 0)))
    (p.bytes_after ∙ (λ j. sets l.bytes (record_size * l.kept) (added l.bytes (n j) l.i)))
