-- The star that is read is near.
use Rattle.vectors.specs.Laws.{triple-within}
use Rattle.search_fit.proofs.span.agrees_with.Goals as goal

pub dot-product-requires-clause-within3_2 : goal.dot-product-requires-clause-within3_2
dot-product-requires-clause-within3_2 c = rw c.triple_at.ensures (triple-within c.requires.a_in_bounds.1 c.args.a)
