-- `ranking_by_index::votes::by_catalogue::vote_row`: the pairs of star b add up. Assumes nothing.
use Rattle.std.specs.Prelude.{◌≡◌, ℕ, ◌+◌, get_or}
use Rattle.std.proofs.Common.{ap, ◌∙◌, arith}
use Rattle.ranking_by_index.specs.votes.Span.{sum_to, in_span, meets, row_votes}
use Rattle.ranking_by_index.specs.votes.SpanLaws.{sum-empty, sum-next, sum_bound, meets-most}
use Rattle.ranking_by_index.proofs.votes.by_catalogue.vote_row.Goals as goal

pub loop-a-init : goal.loop-a-init
loop-a-init c = λ k. sum-empty _ _

pub vote_pair-requires-clause-by_index : goal.vote_pair-requires-clause-by_index
vote_pair-requires-clause-by_index c =
    let x = c.args in
    λ k.
    omega (
      arith,
      c.requires.listed.few,
      c.requires.b_bound,
      c.loop-a.invariant k,
      c.requires.by_index k,
      sum_bound 2 c.loop-a.a (meets (in_span x.stars.now x.lower x.upper) k x.b) (λ a h. meets-most x.stars.now x.lower x.upper k x.b a),
    )

pub loop-a-preserved : goal.loop-a-preserved
loop-a-preserved c =
    let x = c.args in
    λ k. omega (arith, c.vote_pair.ensures k, c.loop-a.invariant k, sum-next c.loop-a.a (meets (in_span x.stars.now x.lower x.upper) k x.b))

pub returns : goal.returns
unfolding row_votes
returns c =
    let x = c.args in
    let e : c.loop-a.a ≡ x.b = omega arith in
    λ k. c.loop-a.invariant k ∙ ap (λ (n : ℕ). get_or x.votes.now k 0 + sum_to n (meets (in_span x.stars.now x.lower x.upper) k x.b)) e
