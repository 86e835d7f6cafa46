-- `camera_direction::settings::position_ok`: its two tests are those of the definition. Assumes nothing.
use Rattle.std.specs.Prelude.{ℤ}
use Rattle.std.proofs.Common.{sym, ap, ◌∙◌}
use mir.Syntax.{w64}
use Rattle.numbers.specs.Num.{param, back}
use Rattle.camera_direction.specs.Settings.{place_ok, position_ok}
use Rattle.camera_direction.proofs.settings.position_ok.Goals as goal

pub returns-then-place_ok : goal.returns-then-place_ok
unfolding position_ok
returns-then-place_ok c =
    let x = ap (λ (z : ℤ). place_ok z) (back (param {w = w64} c.ranges.x)) in
    let y = ap (λ (z : ℤ). place_ok z) (back (param {w = w64} c.ranges.y)) in
    rw (sym x ∙ sym c.place_ok.ensures ∙ c.if-place_ok.true) (c.place_ok-then-place_ok.ensures ∙ y)

pub returns-else-place_ok : goal.returns-else-place_ok
unfolding position_ok
returns-else-place_ok c =
    let x = ap (λ (z : ℤ). place_ok z) (back (param {w = w64} c.ranges.x)) in
    rw (sym x ∙ sym c.place_ok.ensures ∙ c.if-place_ok.false) c.if-place_ok.false
