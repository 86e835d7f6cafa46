-- `camera_direction::position::norm`: each size is that of the offset itself. Assumes nothing.
use Rattle.std.specs.Prelude.{◌+◌, ◌*◌, nat_abs}
use Rattle.std.proofs.Common.{ap, ◌∙◌}
use mir.Syntax.{w64}
use Rattle.numbers.specs.Root.{root as root_of}
use Rattle.numbers.specs.Num.{param, back}
use Rattle.camera_direction.specs.Position.{norm_of}
use Rattle.camera_direction.proofs.position.norm.Goals as goal

pub returns : goal.returns
unfolding norm_of
returns c =
    let a = c.unsigned_abs-a.ensures.value ∙ ap nat_abs (back (param {w = w64} c.ranges.x)) in
    let b = c.unsigned_abs-b.ensures.value ∙ ap nat_abs (back (param {w = w64} c.ranges.y)) in
    let d = c.unsigned_abs-c.ensures.value ∙ ap nat_abs (back (param {w = w64} c.ranges.focal)) in
    c.root.ensures ∙ (λ i. root_of (65536 * (a i * a i + b i * b i + d i * d i)))
