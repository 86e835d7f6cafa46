-- What passes where rivals are sought is a rival.
use Rattle.search_fit.proofs.Rules.{first-rival}
use Rattle.search_rival.proofs.first_rival.Goals as goal

pub returns : goal.returns
returns c =
    let f = c.first.ensures in
    record { first = first-rival _ c.args.ranking.now _ _ _ _ c.args.ours f.first; rest = f.rest; size = f.size }
