-- The stars stand behind the four counts.
use Rattle.std.proofs.Common.{◌∙◌, [], ◌∷◌, w64}
use Rattle.numbers.specs.Num.{kept}
use Rattle.c_numbers.specs.Numbers.{accepted_numbers}
use Rattle.c_numbers.specs.Stars.{joined, with_stars}
use Rattle.c_interface.proofs.frame.answers.of_report.Goals as goal

pub returns : goal.returns
unfolding joined with_stars
returns c =
    c.put_stars.ensures
    ∙ (λ i.
    with_stars
    c.args.report.stars
    8
    (accepted_numbers
    (kept w64 c.signed.type_inv c.signed.ensures i
    ∷ (kept w64 c.signed-2.type_inv c.signed-2.ensures i
    ∷ (kept w64 c.signed-3.type_inv c.signed-3.ensures i ∷ (kept w64 c.signed-4.type_inv c.signed-4.ensures i ∷ []))))))
