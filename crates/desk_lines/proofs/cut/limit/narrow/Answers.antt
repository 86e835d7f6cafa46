-- The number as std narrows it.
use Rattle.std.proofs.Common.{ap, ◌∙◌, w64}
use mir.ValLaws.{to_z-of_z}
use Rattle.desk_lines.specs.cut.Limit.{limit_for}
use Rattle.desk_lines.specs.cut.LimitLaws.{converted}
use Rattle.desk_lines.proofs.cut.limit.narrow.Goals as goal

pub returns : goal.returns
returns c =
    c.ok.ensures.value
    ∙ converted c.try_from.result _ c.try_from.ensures
    ∙ ap limit_for (to_z-of_z w64 c.args.z c.ranges.z)
