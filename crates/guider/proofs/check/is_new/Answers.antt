-- That the identity is not among those before it, told by std's test of the list.
use Rattle.std.proofs.Common.{ap, ◌∙◌, not, ℕ, eqb, get_or, arith}
use Rattle.guider.proofs.Listed.{none-listed}
use Rattle.guider.proofs.check.is_new.Goals as goal

pub returns : goal.returns
returns c =
    let own = get_or c.args.identities.now c.args.i 0 in
    ap not c.contains.ensures.value ∙ none-listed (λ (y : ℕ). eqb y own) c.args.identities.now 0 c.args.i (omega arith)
