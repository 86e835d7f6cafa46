use Rattle.std.proofs.Common.{◌≡◌, arith, rules}
use Rattle.desk_lines.specs.compare.LinesLaws.{label-removed, label-added, label-changed}
use Rattle.desk_lines.proofs.compare.label.Goals as goal

pub returns-in-1-clause-wrote : goal.returns-in-1-clause-wrote
returns-in-1-clause-wrote c = rw (← label-removed c.args.identity c.args.kind c.in-1.is) c.labelled.ensures.wrote

pub returns-in-2-clause-wrote : goal.returns-in-2-clause-wrote
returns-in-2-clause-wrote c = rw (← label-added c.args.identity c.args.kind (λ e. omega arith) c.in-2.is) c.labelled-in-2.ensures.wrote

pub returns-in_default-clause-wrote : goal.returns-in_default-clause-wrote
returns-in_default-clause-wrote c =
    let h : c.args.kind ≡ 1 → ⊥ = search rules in
    let k : c.args.kind ≡ 2 → ⊥ = search rules in
    rw (← label-changed c.args.identity c.args.kind h k) c.labelled-in_default.ensures.wrote
