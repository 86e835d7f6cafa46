-- `ranking_by_index::votes::ends::vote_both`: two counters, or one of them twice, are raised. Assumes nothing.
use Rattle.std.specs.Prelude.{◌≡◌, ◌+◌, ◌/◌, ◌%◌, ◌<◌, get_or, length, set}
use Rattle.std.proofs.Common.{arith, rules, length-set}
use Rattle.ranking_by_index.specs.votes.Span.{named}
use Rattle.ranking_by_index.specs.votes.SpanLaws.{raised_at}
use Rattle.ranking_by_index.proofs.votes.ends.vote_both.Goals as goal

pub returns : goal.returns
unfolding named
returns c =
    let x = c.args in
    let a = x.ends / 65536 in
    let b = x.ends % 65536 in
    let l = x.votes.now in
    let m = set l a (get_or l a 0 + 1) in
    let long : length l ≡ 512 = search rules in
    let first : a < length l = omega arith in
    let second : b < length l = omega arith in
    λ k. omega (arith, raised_at l a k first, raised_at m b k (rw length-set second))
