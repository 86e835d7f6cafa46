-- The look ends where no pixel of the window beats it, or at the first that does.
use Rattle.std.proofs.Common.{sym, ◌∙◌, arith}
use Rattle.frame_window.specs.FirstLaws.{none_first, first-there}
use Rattle.frame_window.proofs.first_beating.Goals as goal

pub returns-after-look : goal.returns-after-look
returns-after-look c =
    let p = c.args.pixel in
    let f = p.frame in
    c.look.invariant.0
    ∙ sym (none_first f.samples.now f.width f.height p.place.row p.place.column (λ j a b k d e. c.look.invariant.1 j (omega arith) b k (omega arith) e))

pub returns-then-beats_it : goal.returns-then-beats_it
returns-then-beats_it c =
    let p = c.args.pixel in
    let f = p.frame in
    sym
    (first-there f.samples.now f.width f.height p.place.row p.place.column c.look.row c.loop-column.column
    (omega arith) (omega arith) (omega arith) (omega arith) (omega arith) (omega arith)
    (sym c.if-beats_it.ensures)
    (λ j a b k d e. c.look.invariant.1 j a b k (omega arith) e)
    c.loop-column.invariant.1)
