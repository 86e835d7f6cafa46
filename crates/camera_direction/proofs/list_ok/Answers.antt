-- `camera_direction::list_ok`: after the two tests of its length, the list is as its numbers are. Assumes nothing.
use Rattle.std.proofs.Common.{◌≡◌, ◌≤◌, ◌%◌, length, ◌∙◌, arith, eq-eqb, le-leb}
use Rattle.camera_direction.specs.List.{largest, list_ok}
use Rattle.camera_direction.specs.ListSteps.{listed_within}
use Rattle.camera_direction.proofs.list_ok.Goals as goal

pub returns : goal.returns
unfolding list_ok
returns c =
    let v = c.args.directions.now in
    let t : length v % 3 ≡ 0 = omega arith in
    let m : length v ≤ 24 = omega arith in
    rw (eq-eqb (length v % 3) 0 t, le-leb (length v) 24 m) (c.all_within.ensures ∙ listed_within largest v)
