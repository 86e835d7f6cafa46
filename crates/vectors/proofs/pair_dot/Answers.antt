-- `vectors::pair_dot` is the dot product of two triples, whose numbers are within ±10^9. Assumes nothing.
use Rattle.std.proofs.Common.{◌∙◌}
use mir.Syntax.{w64}
use Rattle.numbers.specs.Num.{kept}
use Rattle.vectors.specs.Vectors.{dot_of}
use Rattle.vectors.specs.Triples.{pair_dot}
use Rattle.vectors.specs.Laws.{triple-within}
use Rattle.vectors.proofs.pair_dot.Goals as goal

pub dot-requires-clause-within3 : goal.dot-requires-clause-within3
dot-requires-clause-within3 c = rw c.triple_at.ensures (triple-within c.requires.all_within c.args.i)

pub dot-requires-clause-within3_2 : goal.dot-requires-clause-within3_2
dot-requires-clause-within3_2 c = rw c.triple_at-2.ensures (triple-within c.requires.all_within c.args.j)

pub returns-clause-value : goal.returns-clause-value
unfolding pair_dot
returns-clause-value c = kept w64 c.dot.type_inv (c.dot.ensures.value ∙ (λ i. dot_of (c.triple_at.ensures i) (c.triple_at-2.ensures i)))
