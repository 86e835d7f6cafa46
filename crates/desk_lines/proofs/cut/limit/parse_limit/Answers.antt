use Rattle.std.proofs.Common.{sym, ap, ◌∙◌, ℤ, w64, rules}
use Rattle.std.specs.Prelude.{Option}
use mir.Val.{SFits}
use mir.ValLaws.{to_z-of_z}
use Rattle.desk_lines.specs.cut.Limit.{limit_for, narrowed}
use Rattle.desk_lines.specs.cut.LimitLaws.{told}
use Rattle.desk_lines.proofs.cut.limit.parse_limit.Goals as goal

pub returns-in_err-number : goal.returns-in_err-number
returns-in_err-number c =
    let none = ap (λ (x : Option ℤ). narrowed x) (sym c.in_err-number.was ∙ c.parse_signed.ensures.value) in
    let t = told c.args.word.now (c.from_residual.ensures ∙ none) in
    record { value = t.0; result_value = t.1 }

pub returns : goal.returns
returns c =
    let f : SFits w64 c.in_ok-number.number = search rules in
    let some = ap (λ (x : Option ℤ). narrowed x) (sym c.in_ok-number.was ∙ c.parse_signed.ensures.value) in
    let t = told c.args.word.now (c.narrow.ensures ∙ ap limit_for (to_z-of_z w64 c.in_ok-number.number f) ∙ some) in
    record { value = t.0; result_value = t.1 }
