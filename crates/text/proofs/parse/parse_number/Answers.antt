use Rattle.std.proofs.Common.{sym, ◌∙◌, arith}
use Rattle.text.specs.ParseLaws.{parsed-empty, parsed-some, parsed-stop, parsed-next, parsed-whole, told}
use Rattle.text.proofs.parse.parse_number.Goals as goal

pub returns-then-is_empty : goal.returns-then-is_empty
returns-then-is_empty c =
    let t = told c.args.word.now (sym (parsed-empty _ c.if-is_empty.true)) in
    record { value = t.0; result_value = t.1 }

pub loop-byte-init : goal.loop-byte-init
loop-byte-init c = (omega arith, parsed-some _ (omega arith))

pub returns-in_err-value : goal.returns-in_err-value
returns-in_err-value c =
    let stop = parsed-stop _ _ c.loop-byte.value c.loop-byte-test.true (sym c.with_digit.ensures ∙ c.in_err-value.was) in
    let t = told c.args.word.now (c.from_residual.ensures ∙ sym (c.loop-byte.invariant.1 ∙ stop)) in
    record { value = t.0; result_value = t.1 }

pub loop-byte-preserved : goal.loop-byte-preserved
loop-byte-preserved c =
    let more = parsed-next _ _ c.loop-byte.value c.loop-byte-test.true _ (sym c.with_digit.ensures ∙ c.in_ok-value.was) in
    (more.0, c.loop-byte.invariant.1 ∙ more.1)

pub returns : goal.returns
returns c =
    let whole = parsed-whole c.args.word.now _ c.loop-byte.value c.loop-byte-test.false c.loop-byte.invariant.0 in
    let t = told c.args.word.now (sym (c.loop-byte.invariant.1 ∙ whole)) in
    record { value = t.0; result_value = t.1 }
