-- There is one row. Assumes nothing.
use Rattle.std.specs.Prelude.{[]}
use Rattle.std.proofs.Common.{sym, ◌∙◌}
use Rattle.refusal.specs.Table.{first_applying}
use Rattle.refusal.proofs.Laws.{applying-here, applying-next}
use Rattle.attitude_gimbal.proofs.refusals.tested.Goals as goal

pub returns-then-out_of_range : goal.returns-then-out_of_range
returns-then-out_of_range c = c.plain.ensures ∙ sym (applying-here _ [] (sym c.out_of_range.ensures ∙ c.if-out_of_range.true))

pub returns : goal.returns
unfolding first_applying
returns c = sym (applying-next _ [] (sym c.out_of_range.ensures ∙ c.if-out_of_range.false))
