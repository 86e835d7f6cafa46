-- The records before are not broken: either this one is the first, or none is. Assumes nothing.
use Rattle.std.proofs.Common.{◌≡◌, sym, ap, ◌∙◌, le_refl, lt_irrefl, arith}
use Rattle.std.proofs.Math.Bool.{not}
use Rattle.lists.proofs.First.{first_of}
use Rattle.catalogue.specs.Check.{broken_of}
use Rattle.catalogue.specs.Format.{records_in}
use Rattle.catalogue.proofs.rule.first_broken.Goals as goal

pub returns-then-not-record_ok : goal.returns-then-not-record_ok
unfolding broken_of
returns-then-not-record_ok c =
    let none = c.loop-i.invariant in
    (first_of _ _ (record { most = omega arith; none = none; taken = λ _. ap not (sym c.record_ok.ensures ∙ c.if-not-record_ok.true) }), omega arith)

pub returns : goal.returns
unfolding broken_of
returns c =
    let n : c.loop-i.i ≡ records_in c.args.bytes.now = omega arith in
    sym (first_of _ _ (record { most = le_refl _; none = λ k h. c.loop-i.invariant k (omega arith); taken = λ h. absurd (lt_irrefl _ h) }))
