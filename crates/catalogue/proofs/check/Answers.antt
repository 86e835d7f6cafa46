-- `catalogue::check` tests the rows in their order. Assumes nothing.
use Rattle.std.proofs.Common.{sym, ◌∙◌, arith, Ok, Err}
use Rattle.refusal.specs.Numbers.{record_rule}
use Rattle.catalogue.specs.CheckSteps.{checked, wrong-length, one-broken, none-broken}
use Rattle.catalogue.proofs.check.Goals as goal

pub returns-then-not-length_ok-clause-value : goal.returns-then-not-length_ok-clause-value
returns-then-not-length_ok-clause-value c = sym (checked _ (wrong-length _ (sym c.length_ok.ensures ∙ c.if-not-length_ok.true)))

pub returns-in-Some-clause-value : goal.returns-in-Some-clause-value
returns-in-Some-clause-value c =
    let b = c.in-Some.ensures in
    (λ j. Err (record { number = record_rule; place = b.0 j }))
    ∙ sym (checked _ (one-broken _ (sym c.length_ok.ensures ∙ c.if-not-length_ok.false) (omega arith)))

pub returns-in-None-clause-value : goal.returns-in-None-clause-value
returns-in-None-clause-value c =
    (λ j. Ok (c.records.ensures j))
    ∙ sym (checked _ (none-broken _ (sym c.length_ok.ensures ∙ c.if-not-length_ok.false) (omega (arith, c.in-None.ensures))))
