-- None of the eight reaches what the largest does not.
use Rattle.std.proofs.Common.{sym}
use Rattle.frame_window.specs.neighbours.Laws.{lone-largest}
use Rattle.frame_window.proofs.neighbours.is_lone.Goals as goal

pub returns : goal.returns
returns c =
    let p = c.args.pixel in
    let f = p.frame in
    rw (c.from.ensures, c.half_of.ensures, c.largest_beside.ensures)
    (sym (lone-largest f.samples.now f.width f.height p.place.row p.place.column c.requires f.threshold))
