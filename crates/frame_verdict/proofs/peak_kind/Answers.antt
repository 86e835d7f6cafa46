-- Past the test of the edge there is room for the neighbours and for the whole window, the brightness is above 0, and what the sums give is the
-- signed position.
use Rattle.std.proofs.Common.{sym, arith}
use Rattle.frame_centroid.specs.Signed.{from-moments}
use Rattle.frame_verdict.specs.Verdict.{peak_kind}
use Rattle.frame_verdict.specs.Inside.{inside, amid}
use Rattle.frame_verdict.proofs.Bright.{bright}
use Rattle.frame_verdict.proofs.peak_kind.Goals as goal

pub is_lone-requires : goal.is_lone-requires
is_lone-requires c = amid _ _ _ _ (inside _ _ _ _ (sym c.if-is_edge.ensures))

pub invariant_of-moments_at : goal.invariant_of-moments_at
invariant_of-moments_at c =
    let i = inside _ _ _ _ (sym c.if-is_edge.ensures) in
    record { inside = (i.above, i.below, i.left, i.right) }

pub from_moments-requires : goal.from_moments-requires
from_moments-requires c =
    let p = c.args.pixel in
    let f = p.frame in
    let m = c.moments_at-moments.ensures in
    let i = inside _ _ _ _ (sym c.if-is_edge.ensures) in
    let b = bright f.samples.now f.width f.height p.place.row p.place.column c.requires.2 i in (
      record { some = omega arith; small = m.small; across-small = m.across-small; down-small = m.down-small },
      i.above,
      omega arith,
      i.left,
      omega arith,
    )

pub returns : goal.returns
unfolding peak_kind
returns c =
    let p = c.args.pixel in
    let f = p.frame in
    let m = c.moments_at-moments in
    let i = inside _ _ _ _ (sym c.if-is_edge.ensures) in
    rw (
      sym c.if-is_edge.ensures,
      sym c.if-is_lone.ensures,
      c.from_moments.ensures,
      from-moments f.samples.now f.width p.place.row p.place.column (omega (arith, i.above)) (omega (arith, i.left)) m.result m.ensures,
    )
