-- `ranking_by_index::votes::by_catalogue::vote_pair`: a pair in the span is a vote for both its stars, another is none. Assumes nothing.
use Rattle.std.proofs.Common.{ap, arith}
use Rattle.ranking_by_index.specs.votes.Span.{named}
use Rattle.ranking_by_index.specs.votes.SpanLaws.{meets-below, meets-above, meets-in}
use Rattle.ranking_by_index.proofs.votes.by_catalogue.vote_pair.Goals as goal

pub returns-then-product-lower : goal.returns-then-product-lower
returns-then-product-lower c =
    let x = c.args in
    λ k. omega (arith, meets-below x.stars.now x.lower x.upper k x.b x.a (omega (arith, c.product-product.ensures, c.if-product-lower.true)))

pub returns-then-upper-product : goal.returns-then-upper-product
returns-then-upper-product c =
    let x = c.args in
    λ k. omega (arith, meets-above x.stars.now x.lower x.upper k x.b x.a (omega (arith, c.product-product.ensures, c.if-upper-product.true)))

pub returns : goal.returns
returns c =
    let x = c.args in
    λ k.
    omega (
      arith,
      c.vote_both.ensures k,
      ap (named k) c.ends.ensures,
      meets-in x.stars.now x.lower x.upper k x.b x.a (omega (arith, c.product-product.ensures, c.if-product-lower.false))
          (omega (arith, c.product-product.ensures, c.if-upper-product.false))
          (omega (arith, c.requires.listed.few)) (omega (arith, c.requires.listed.few)),
    )
