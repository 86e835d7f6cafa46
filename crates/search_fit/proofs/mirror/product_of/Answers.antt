-- The list's triples are near.
use Rattle.vectors.specs.Laws.{triple-within}
use Rattle.search_fit.proofs.mirror.product_of.Goals as goal

pub triple_product-requires-clause-within3 : goal.triple_product-requires-clause-within3
triple_product-requires-clause-within3 c = rw c.triple_at.ensures (triple-within c.requires.all_within c.args.a)

pub triple_product-requires-clause-within3_2 : goal.triple_product-requires-clause-within3_2
triple_product-requires-clause-within3_2 c = rw c.triple_at-2.ensures (triple-within c.requires.all_within c.args.b)

pub triple_product-requires-clause-within3_3 : goal.triple_product-requires-clause-within3_3
triple_product-requires-clause-within3_3 c = rw c.triple_at-3.ensures (triple-within c.requires.all_within c.args.c)
