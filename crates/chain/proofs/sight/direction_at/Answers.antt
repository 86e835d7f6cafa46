-- The direction is the definition's, which is within 10^9.
use Rattle.std.proofs.Common.{◌≡◌, rules}
use Rattle.chain.specs.Sight.{sight_of}
use Rattle.chain.specs.SightLaws.{sight-within}
use Rattle.chain.proofs.sight.direction_at.Goals as goal

pub returns-in-Ok-clause-within3 : goal.returns-in-Ok-clause-within3
unfolding sight_of
returns-in-Ok-clause-within3 c =
    let e : c.in-Ok.v ≡ sight_of c.args.settings c.args.star = search rules in
    rw e (sight-within c.args.settings c.args.star)
