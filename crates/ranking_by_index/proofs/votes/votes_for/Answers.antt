-- `ranking_by_index::votes::votes_for`: what the index votes and what the full catalogue votes are all votes. Assumes nothing.
use Rattle.std.specs.Prelude.{◌≡◌, ℕ, ◌+◌}
use Rattle.std.proofs.Common.{◌∙◌, ap, arith, rules, length, length-take, take, get_or-take, pos, ℤ, ◌≤◌, get_or}
use Rattle.vectors.specs.Triples.{triples}
use Rattle.ranking_votes.specs.Progress.{setting, so_far}
use Rattle.ranking_votes.specs.ProgressLaws.{at-zeros, all-counted}
use Rattle.ranking_by_index.specs.votes.Pair.{by_index, by_catalogue, votes_by}
use Rattle.ranking_by_index.specs.votes.Directions.{by_most, both-parts}
use Rattle.ranking_by_index.proofs.votes.votes_for.Goals as goal

pub vote_above-requires-clause-by_index : goal.vote_above-requires-clause-by_index
vote_above-requires-clause-by_index c = λ k. omega (arith, at-zeros {A = ℕ} 0 512 k)

pub vote_below-requires-clause-by_index : goal.vote_below-requires-clause-by_index
vote_below-requires-clause-by_index c =
    let x = c.args.indexed.now in
    let b = x.ballot in
    let products = take c.count.result c.products_of-products.result in
    let g = setting products (length products) c.args.i b.stars.now b.tolerance in
    let few : length products ≤ 8 = omega (arith, length-take {A = ℤ} c.count.result c.products_of-products.result, c.products_of-products.ensures.eight) in
    λ k.
    omega (
      arith,
      c.vote_above.ensures.added b.stars.now b.listed_2 x.index_value k,
      at-zeros {A = ℕ} 0 512 k,
      by_most (by_index x.floor b.tolerance) g k few b.listed_2.few,
    )

pub returns : goal.returns
returns c =
    let x = c.args.indexed.now in
    let b = x.ballot in
    let d = c.products_of-products in
    let n = c.count.result in
    let products = take n d.result in
    let g = setting products (length products) c.args.i b.stars.now b.tolerance in
    let k : length products ≡ triples b.directions.now = omega (arith, length-take {A = ℤ} n d.result, d.ensures.eight, b.listed.few, c.count.ensures) in
    all-counted b.directions.now b.stars.now products _ b.tolerance c.args.i
    (λ j m. get_or-take n d.result j (pos 0) (omega arith) ∙ d.ensures.by_index j m)
    (search rules)
    (λ s.
    let u : votes_by (by_index x.floor b.tolerance) g s + votes_by (by_catalogue x.floor b.tolerance) g s ≡ so_far g (triples b.stars.now) s =
    both-parts (by_index x.floor b.tolerance) g s in
    let v : get_or c.vote_below.new.votes s 0 ≡ so_far g (triples b.stars.now) s =
    omega (arith, c.vote_below.ensures s, c.vote_above.ensures.added b.stars.now b.listed_2 x.index_value s, at-zeros {A = ℕ} 0 512 s, u) in
    v ∙ ap (λ (m : ℕ). so_far (setting products m c.args.i b.stars.now b.tolerance) (triples b.stars.now) s) k)
