-- `ranking_by_index::votes::by_catalogue::vote_below`: the directions' votes add up. Assumes nothing.
use Rattle.std.specs.Prelude.{◌≡◌, ℕ, List, ℤ, ◌+◌, ◌≤◌, pos, get_or, length}
use Rattle.std.proofs.Common.{sym, ap, ◌∙◌, arith}
use Rattle.ranking_votes.specs.Progress.{setting}
use Rattle.ranking_by_index.specs.votes.Span.{sum_to}
use Rattle.ranking_by_index.specs.votes.Pair.{by_catalogue, adds}
use Rattle.ranking_by_index.specs.votes.SpanLaws.{sum-empty, sum-next, sum_bound}
use Rattle.ranking_by_index.specs.votes.Directions.{adds-most, by-sum}
use Rattle.ranking_by_index.proofs.votes.by_catalogue.vote_below.Goals as goal

-- what direction j adds to star c
abbrev part : List ℤ → ℕ → ℕ → ℕ → List ℤ → ℕ → ℕ → ℕ
part products i tolerance floor stars c j = adds (by_catalogue floor tolerance) (get_or products j (pos 0)) stars tolerance i c j

pub loop-j-init : goal.loop-j-init
loop-j-init c = λ k. sum-empty _ _

pub vote-requires-clause-by_index : goal.vote-requires-clause-by_index
vote-requires-clause-by_index c =
    let x = c.args in
    let s = x.split.now in
    let n : c.loop-j.j ≤ 8 = omega (arith, s.few) in
    λ k.
    omega (
      arith,
      c.loop-j.invariant k,
      c.requires.by_index k,
      sum_bound 512 c.loop-j.j (part s.products.now s.i s.tolerance s.floor x.stars.now k)
          (λ j h. adds-most (by_catalogue s.floor s.tolerance) (get_or s.products.now j (pos 0)) x.stars.now s.tolerance s.i k j c.requires.listed.few),
    )

pub loop-j-preserved : goal.loop-j-preserved
loop-j-preserved c =
    let x = c.args in
    let s = x.split.now in
    λ k. omega (arith, c.vote.ensures k, c.loop-j.invariant k, sum-next c.loop-j.j (part s.products.now s.i s.tolerance s.floor x.stars.now k))

pub returns : goal.returns
returns c =
    let x = c.args in
    let s = x.split.now in
    let d : c.loop-j.j ≡ length s.products.now = omega arith in
    λ k.
    c.loop-j.invariant k ∙ ap (λ (n : ℕ). get_or x.votes.now k 0 + n)
    (ap (λ (n : ℕ). sum_to n (part s.products.now s.i s.tolerance s.floor x.stars.now k)) d
    ∙ sym (by-sum (by_catalogue s.floor s.tolerance) (setting s.products.now (length s.products.now) s.i x.stars.now s.tolerance) k))
