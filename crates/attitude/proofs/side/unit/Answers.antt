-- The root is above 0, and at most 2^32, so that it fits.
use Rattle.std.proofs.Common.{◌≡◌, ℕ, ap, pos, w64}
use Rattle.numbers.specs.Abs.{pos-positive}
use Rattle.numbers.specs.Num.{Num, num, back, fits, above}
use Rattle.numbers.specs.Root.{root}
use Rattle.vectors.specs.declared.Vec3.{Vec3}
use Rattle.vectors.specs.Vectors.{Within3}
use Rattle.attitude.specs.Side.{squares_of, unit_of}
use Rattle.attitude.specs.Bounds.{root-pos, root-le}
use Rattle.attitude.proofs.side.unit.Goals as goal

abbrev divisor : {d : Vec3} {r : ℕ} → r ≡ root (squares_of d) → Within3 1073741823 d → Num w64
divisor e h = num (ap pos e) (record { within = root-le _ h }) tt

pub overflow_cast-root : goal.overflow_cast-root
overflow_cast-root c = fits (divisor {d = c.args.d} {r = c.root.result} (cc) c.requires.within3)

pub unit_by-requires-clause-pos_bound : goal.unit_by-requires-clause-pos_bound
unit_by-requires-clause-pos_bound c =
    above (divisor {d = c.args.d} {r = c.root.result} (cc) c.requires.within3) (pos-positive (root-pos c.args.d c.requires.d_nonzero))

pub returns : goal.returns
unfolding unit_of
returns c = cc (back (divisor {d = c.args.d} {r = c.root.result} (cc) c.requires.within3))
