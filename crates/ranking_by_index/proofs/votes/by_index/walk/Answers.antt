-- `ranking_by_index::votes::by_index::walk`: the records before the span and behind it give nothing. Assumes nothing.
use Rattle.std.specs.Prelude.{◌≡◌, ℕ, List, ◌+◌, ◌/◌, ◌≤◌, length, get_or}
use Rattle.std.proofs.Common.{ap, ◌∙◌, arith}
use Rattle.catalogue_index.specs.records.Format.{high_at, low_at}
use Rattle.ranking_by_index.specs.votes.Span.{named, given, sum_to, span_votes}
use Rattle.ranking_by_index.specs.votes.SpanLaws.{sum-none, sum-next, sum-rest, sum-most, given-in, given_below, given_above, given-most}
use Rattle.ranking_by_index.proofs.votes.by_index.walk.Goals as goal

-- what record k gives to star c
abbrev gives : List ℕ → ℕ → ℕ → ℕ → ℕ → ℕ
gives index lower upper c k = given lower upper c (high_at index k) (low_at index k)

pub loop-i-init : goal.loop-i-init
loop-i-init c =
    let x = c.args in
    λ k.
    omega (
      arith,
      sum-none c.first_from-i.result (gives x.index.now x.lower x.upper k)
          (λ j h. given_below x.lower x.upper k (high_at x.index.now j) (low_at x.index.now j) (c.first_from-i.ensures.by_index j h)),
    )

pub returns-then-upper-high : goal.returns-then-upper-high
unfolding span_votes
returns-then-upper-high c =
    let h = c.high.ensures in
    let x = c.args in
    let i = c.loop-i.i in
    let n = length x.index.now / 12 in
    λ k.
    omega (
      arith,
      c.loop-i.invariant k,
      sum-rest i n (gives x.index.now x.lower x.upper k) (omega arith)
          (λ j p q. given_above x.lower x.upper k (high_at x.index.now j) (low_at x.index.now j)
          (omega (arith, c.requires.usable.rising i j p q, c.if-upper-high.true))),
    )

pub vote_both-requires-clause-by_index : goal.vote_both-requires-clause-by_index
vote_both-requires-clause-by_index c =
    let x = c.args in
    let i = c.loop-i.i in
    λ k.
    omega (
      arith,
      c.loop-i.invariant k,
      c.requires.by_index k,
      c.requires.index_len_bound,
      sum-most i 0 (gives x.index.now x.lower x.upper k) (λ n. given-most x.lower x.upper k (high_at x.index.now n) (low_at x.index.now n)),
    )

pub loop-i-preserved : goal.loop-i-preserved
loop-i-preserved c =
    let h = c.high.ensures in
    let x = c.args in
    let i = c.loop-i.i in
    let b : x.lower ≤ high_at x.index.now i = c.first_from-i.ensures.by_index_2 i (omega arith) (omega arith) in
    let a : high_at x.index.now i ≤ x.upper = omega (arith, c.if-upper-high.false) in
    λ k.
    omega (
      arith,
      c.vote_both.ensures k,
      c.loop-i.invariant k,
      sum-next i (gives x.index.now x.lower x.upper k),
      given-in x.lower x.upper k (high_at x.index.now i) (low_at x.index.now i) b a,
      ap (named k) c.low.ensures,
    )

pub returns : goal.returns
unfolding span_votes
returns c =
    let x = c.args in
    let e : c.loop-i.i ≡ length x.index.now / 12 = omega (arith, c.first_from-i.ensures.upper_bound) in
    λ k. c.loop-i.invariant k ∙ ap (λ (n : ℕ). get_or x.votes.now k 0 + sum_to n (gives x.index.now x.lower x.upper k)) e
