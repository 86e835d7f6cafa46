-- `vectors::agree` is `agreeing` by its definition. Assumes nothing.
use Rattle.std.specs.Prelude.{ℕ, leb, nat_abs, ◌-ℤ◌}
use Rattle.std.proofs.Common.{ap, ◌∙◌}
use mir.Syntax.{w64}
use Rattle.numbers.specs.Num.{param, back}
use Rattle.vectors.specs.Agree.{agreeing}
use Rattle.vectors.proofs.agree.Goals as goal

pub returns : goal.returns
unfolding agreeing
returns c =
    let p = back (param {w = w64} c.ranges.p) in
    let q = back (param {w = w64} c.ranges.q) in
    ap (λ (n : ℕ). leb n c.args.tolerance) (c.abs_diff.ensures ∙ (λ i. nat_abs (p i -ℤ q i)))
