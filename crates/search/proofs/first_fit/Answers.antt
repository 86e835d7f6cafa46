-- Where no rival is sought, what passes is what fits.
use Rattle.search_fit.proofs.Rules.{first_fits}
use Rattle.search.proofs.first_fit.Goals as goal

pub returns : goal.returns
returns c = let f = c.first.ensures in record { first = first_fits _ c.args.ranking.now _ _ _ _ f.first; rest = f.rest; size = f.size }
