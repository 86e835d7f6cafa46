-- `camera_lens::range::in_range`: the literals are the ends of the range over 256. Assumes nothing.
use Rattle.std.proofs.Common.{◌≡◌, Bool, ◌&&◌, sym, ap, ◌∙◌}
use Rattle.std.specs.Prelude.{Float}
use Rattle.std.specs.Float.{binary64}
use Rattle.std.specs.Float.Ieee.{of_bits, lt, le}
use Rattle.camera_lens.specs.Lens.{in_range}
use Rattle.camera_lens.specs.Range.{limit, tests}
use Rattle.camera_lens.proofs.range.in_range.Goals as goal

by_first : (q : Float) {t : Bool} → le (of_bits binary64 0x4050_0000_0000_0000) q ≡ t → (t && lt q (of_bits binary64 0x40d0_0000_4000_0000)) ≡ in_range q
unfolding of_bits
by_first q h = sym (ap (λ (s : Bool). s && lt q limit) h) ∙ tests q

pub returns-then-is_above : goal.returns-then-is_above
returns-then-is_above c = by_first c.args.q c.if-is_above.true

pub returns-else-is_above : goal.returns-else-is_above
returns-else-is_above c = c.if-is_above.false ∙ by_first c.args.q c.if-is_above.false
