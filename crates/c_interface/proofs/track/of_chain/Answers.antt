-- The names and the matrix stand behind the list.
use Rattle.std.proofs.Common.{ap, ◌∙◌, List, ℤ}
use Rattle.c_numbers.specs.Numbers.{outcome_numbers}
use Rattle.c_numbers.specs.Stars.{joined, with_names}
use Rattle.c_numbers.specs.Matrix.{with_matrix}
use Rattle.c_interface.proofs.track.of_chain.Goals as goal

pub returns : goal.returns
unfolding joined with_names
returns c =
    let t = c.args.tracked in
    c.of_outcome.ensures
    ∙ ap (outcome_numbers t.outcome)
    (c.put_matrix.ensures
    ∙ ap (λ (xs : List ℤ). with_matrix xs 38 t.matrix)
    (c.put_names.ensures ∙ ap (λ (xs : List ℤ). with_names 30 t.stars t.report.count c.args.stars 8 xs) c.of_report-flat.ensures))
