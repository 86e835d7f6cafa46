-- Each step's result is the definition's own vector, and `Bounds` says that it fits.
use Rattle.std.proofs.Common.{◌≡◌}
use Rattle.vectors.specs.Vectors.{cross_of}
use Rattle.vectors.specs.Laws.{cross-within}
use Rattle.attitude.specs.Scale.{reduced_of}
use Rattle.attitude.specs.Side.{axes_of}
use Rattle.attitude.specs.Bounds.{reduced-within, reduced-large, unit-within}
use Rattle.attitude.proofs.side.axes_of.Goals as goal

pub unit-t2-requires-clause-within3 : goal.unit-t2-requires-clause-within3
unit-t2-requires-clause-within3 c =
    let e : c.reduced.result ≡ reduced_of (cross_of c.args.v c.args.w) = cc in
    rw e (reduced-within _ (cross-within c.requires.within3 c.requires.within3_2))

pub unit-t2-requires-clause-d_nonzero : goal.unit-t2-requires-clause-d_nonzero
unit-t2-requires-clause-d_nonzero c =
    let e : c.reduced.result ≡ reduced_of (cross_of c.args.v c.args.w) = cc in
    rw e (reduced-large _ (cross-within c.requires.within3 c.requires.within3_2) c.requires.bound)

pub cross-requires-2-clause-within3_2 : goal.cross-requires-2-clause-within3_2
cross-requires-2-clause-within3_2 c = rw c.unit-t2.ensures (unit-within _)

pub returns : goal.returns
unfolding axes_of
returns c = cc
