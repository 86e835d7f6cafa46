-- The names stand behind the count.
use Rattle.std.proofs.Common.{ap, ◌∙◌, List, ℤ}
use Rattle.c_numbers.specs.Numbers.{outcome_numbers}
use Rattle.c_numbers.specs.Stars.{joined, with_names}
use Rattle.c_interface.proofs.identify.answers.of_search.Goals as goal

pub returns : goal.returns
unfolding joined with_names
returns c =
    let a = c.args in
    c.of_outcome.ensures
    ∙ ap (outcome_numbers a.identification.outcome)
    (c.put_names.ensures ∙ ap (λ (xs : List ℤ). with_names 3 a.identification.stars a.directions a.stars 8 xs) c.of_count-flat.ensures)
