-- `ranking_by_index::votes::by_index::vote_above`: the directions' votes add up, whichever stars the index is right for. Assumes nothing.
use Rattle.std.specs.Prelude.{◌≡◌, ℕ, List, ℤ, ◌+◌, ◌≤◌, pos, get_or, length}
use Rattle.std.proofs.Common.{sym, ap, ◌∙◌, arith}
use Rattle.ranking_votes.specs.Progress.{setting}
use Rattle.catalogue_index.specs.records.Read.{Bytes}
use Rattle.ranking_by_index.specs.votes.Span.{sum_to}
use Rattle.ranking_by_index.specs.votes.Pair.{by_index, adds}
use Rattle.ranking_by_index.specs.votes.SpanLaws.{sum-empty, sum-next, sum_bound}
use Rattle.ranking_by_index.specs.votes.Directions.{adds-most, by-sum, index-usable, index-few}
use Rattle.ranking_by_index.proofs.votes.by_index.vote_above.Goals as goal

-- what direction j adds to star c
abbrev part : List ℤ → ℕ → ℕ → ℕ → List ℤ → ℕ → ℕ → ℕ
part products i tolerance floor stars c j = adds (by_index floor tolerance) (get_or products j (pos 0)) stars tolerance i c j

pub loop-j-init : goal.loop-j-init
loop-j-init c = λ stars h e k. sum-empty _ _

pub vote-requires-clause-usable : goal.vote-requires-clause-usable
vote-requires-clause-usable c =
    let w = c.requires.index_for in
    let b : Bytes c.args.index.now = λ n. (c.type_inv.index n).fits in
    index-usable w.stars c.args.split.now.floor c.args.index.now w.listed b w.right

pub vote-requires-clause-index_len_bound : goal.vote-requires-clause-index_len_bound
vote-requires-clause-index_len_bound c =
    let w = c.requires.index_for in
    let b : Bytes c.args.index.now = λ n. (c.type_inv.index n).fits in
    index-few w.stars c.args.split.now.floor c.args.index.now w.listed b w.right

pub vote-requires-clause-by_index : goal.vote-requires-clause-by_index
vote-requires-clause-by_index c =
    let x = c.args in
    let s = x.split.now in
    let w = c.requires.index_for in
    let n : c.loop-j.j ≤ 8 = omega (arith, s.few) in
    λ k.
    omega (
      arith,
      c.loop-j.invariant w.stars w.listed w.right k,
      c.requires.by_index k,
      sum_bound 512 c.loop-j.j (part s.products.now s.i s.tolerance s.floor w.stars k)
          (λ j h. adds-most (by_index s.floor s.tolerance) (get_or s.products.now j (pos 0)) w.stars s.tolerance s.i k j w.listed.few),
    )

pub loop-j-preserved : goal.loop-j-preserved
loop-j-preserved c =
    let x = c.args in
    let s = x.split.now in
    λ stars h e k.
    omega (
      arith,
      c.vote.ensures.added stars h e k,
      c.loop-j.invariant stars h e k,
      sum-next c.loop-j.j (part s.products.now s.i s.tolerance s.floor stars k),
    )

pub returns : goal.returns
returns c =
    let x = c.args in
    let s = x.split.now in
    let d : c.loop-j.j ≡ length s.products.now = omega arith in
    record {
      added = λ stars h e k.
          c.loop-j.invariant stars h e k ∙ ap (λ (n : ℕ). get_or x.votes.now k 0 + n)
          (ap (λ (n : ℕ). sum_to n (part s.products.now s.i s.tolerance s.floor stars k)) d
          ∙ sym (by-sum (by_index s.floor s.tolerance) (setting s.products.now (length s.products.now) s.i stars s.tolerance) k));
    }
