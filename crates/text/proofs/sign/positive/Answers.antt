-- The size as std turns it into a signed number.
use Rattle.std.proofs.Common.{sym, ap, ◌∙◌, ℕ, pos}
use Rattle.std.specs.Prelude.{Option}
use Rattle.text.specs.Sign.{positive_of}
use Rattle.text.specs.SignLaws.{converted}
use Rattle.text.proofs.sign.positive.Goals as goal

pub returns : goal.returns
returns c =
    c.ok.ensures.value
    ∙ converted c.try_from.result (pos c.in_ok-size.field-0) c.try_from.ensures
    ∙ sym (ap (λ (p : Option ℕ). positive_of p) c.in_ok-size.was)
