-- Of the stars passed none lies in the box, or one alone.
use Rattle.std.proofs.Common.{◌≡◌}
use Rattle.std.specs.Prelude.{MatchOption}
use Rattle.lists.specs.Number.{number}
use Rattle.guider.specs.boxes.Single.{holds, Alone}
use Rattle.guider.proofs.boxes.single.Given as goal

abbrev pub invariant-loop-star : goal.invariant-loop-star
invariant-loop-star l =
    let half = l.fn.boxes.guider.half in
    MatchOption l.single (number l.star-index (holds half l.guide l.fn.boxes.report) ≡ 0) (Alone half l.guide l.fn.boxes.report l.star-index)
