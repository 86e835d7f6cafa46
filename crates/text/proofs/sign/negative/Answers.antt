-- What is left of nothing, less the size.
use Rattle.std.proofs.Common.{◌≡◌, sym, ap, ◌∙◌, ℕ, pos, ◌-ℤ◌, arith}
use Rattle.std.proofs.lemmas.Int.{ints}
use Rattle.std.specs.Prelude.{Option, neg_ℤ}
use Rattle.text.specs.Sign.{fitting, negative_of}
use Rattle.text.specs.SignLaws.{fitted}
use Rattle.text.proofs.sign.negative.Goals as goal

turned : (n : ℕ) → pos 0 -ℤ pos n ≡ neg_ℤ (pos n)
turned n = omega (arith, ints)

pub returns : goal.returns
returns c =
    let n = c.in_ok-size.field-0 in
    fitted c.checked_sub_unsigned.result (pos 0 -ℤ pos n) c.checked_sub_unsigned.ensures
    ∙ ap fitting (turned n)
    ∙ sym (ap (λ (p : Option ℕ). negative_of p) c.in_ok-size.was)
