-- `camera_direction::settings::between`: its two tests are those of the definition. Assumes nothing.
use Rattle.std.specs.Int.Signed.{le_z}
use mir.Syntax.{w64}
use Rattle.numbers.specs.Num.{param, back, tested_le}
use Rattle.camera_direction.specs.Settings.{between}
use Rattle.camera_direction.proofs.settings.between.Goals as goal

pub returns-then-low-v : goal.returns-then-low-v
unfolding between
returns-then-low-v c =
    let f = c.ranges in
    rw (tested_le (param f.low) (param f.v) c.if-low-v.true) (λ i. le_z (back (param {w = w64} f.v) i) (back (param {w = w64} f.high) i))

pub returns-else-low-v : goal.returns-else-low-v
unfolding between
returns-else-low-v c = rw (tested_le (param c.ranges.low) (param c.ranges.v) c.if-low-v.false) c.if-low-v.false
