-- `ranking_by_index::votes::by_catalogue::vote_all`: the rows of pairs add up. Assumes nothing.
use Rattle.std.specs.Prelude.{◌≡◌, ℕ, ◌+◌, ◌≤◌, get_or}
use Rattle.std.proofs.Common.{ap, ◌∙◌, arith}
use Rattle.vectors.specs.Triples.{triples}
use Rattle.ranking_by_index.specs.votes.Span.{sum_to, row_votes, all_votes}
use Rattle.ranking_by_index.specs.votes.SpanLaws.{sum-empty, sum-next, sum_bound, row-most}
use Rattle.ranking_by_index.proofs.votes.by_catalogue.vote_all.Goals as goal

pub loop-b-init : goal.loop-b-init
loop-b-init c = λ k. sum-empty _ _

pub vote_row-requires-clause-by_index : goal.vote_row-requires-clause-by_index
vote_row-requires-clause-by_index c =
    let x = c.args in
    let n : c.loop-b.b ≤ 512 = omega (arith, c.requires.listed.few) in
    λ k.
    omega (
      arith,
      c.loop-b.invariant k,
      c.requires.by_index k,
      sum_bound 1024 c.loop-b.b (row_votes x.stars.now x.lower x.upper k) (λ b h. omega (arith, row-most x.stars.now x.lower x.upper k b)),
    )

pub loop-b-preserved : goal.loop-b-preserved
loop-b-preserved c =
    let x = c.args in
    λ k. omega (arith, c.vote_row.ensures k, c.loop-b.invariant k, sum-next c.loop-b.b (row_votes x.stars.now x.lower x.upper k))

pub returns : goal.returns
unfolding all_votes
returns c =
    let x = c.args in
    let e : c.loop-b.b ≡ triples x.stars.now = omega arith in
    λ k. c.loop-b.invariant k ∙ ap (λ (n : ℕ). get_or x.votes.now k 0 + sum_to n (row_votes x.stars.now x.lower x.upper k)) e
