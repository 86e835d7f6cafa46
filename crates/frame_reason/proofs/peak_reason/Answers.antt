-- A lone pixel has all its neighbours.
use Rattle.std.proofs.Common.{sym}
use Rattle.frame_verdict.specs.Inside.{inside, amid}
use Rattle.frame_verdict.proofs.Laws.{peak-lone}
use Rattle.frame_reason.proofs.peak_reason.Goals as goal

pub largest_beside-requires : goal.largest_beside-requires
largest_beside-requires c =
    let p = c.args.pixel in
    let f = p.frame in
    amid _ _ _ _ (inside _ _ _ _ (peak-lone f.samples.now f.width f.height f.threshold p.place.row p.place.column (sym c.in-Lone.ensures)).0)
