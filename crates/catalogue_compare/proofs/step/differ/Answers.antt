-- Either this word is another, or none is. Assumes nothing.
use Rattle.std.proofs.Common.{sym, ◌∙◌, arith}
use Rattle.catalogue_compare.specs.DifferLaws.{differ-any, differ-none}
use Rattle.catalogue_compare.proofs.step.differ.Goals as goal

pub returns-then-u32_at : goal.returns-then-u32_at
returns-then-u32_at c =
    let x = c.args in
    sym (differ-any x.first.now x.i x.second.now x.j c.loop-k.k (omega arith)
    (λ e. c.if-u32_at.true (c.u32_at.ensures ∙ e ∙ sym c.u32_at-in-loop-k.ensures)))

pub returns : goal.returns
returns c = let x = c.args in sym (differ-none x.first.now x.i x.second.now x.j (λ n h. c.loop-k.invariant n (omega arith)))
