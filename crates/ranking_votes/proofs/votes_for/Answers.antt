-- `ranking_votes::votes_for`: where all stars are counted, the counters are the votes. Assumes nothing.
use Rattle.std.proofs.Common.{◌≡◌, ◌∙◌, ℕ, ap, refl, arith, length, length-take, ℤ, take, get_or-take, pos}
use Rattle.vectors.specs.Triples.{triples}
use Rattle.ranking_votes.specs.Progress.{setting, so_far}
use Rattle.ranking_votes.specs.ProgressLaws.{none-counted, all-counted}
use Rattle.ranking_votes.proofs.votes_for.Goals as goal

pub loop-a-init : goal.loop-a-init
loop-a-init c = (refl, none-counted _)

pub returns : goal.returns
returns c =
    let x = c.args in
    let b = x.ballot.now in
    let l = c.loop-a in
    let d = c.products_of-all in
    let n = c.count.result in
    let u : l.a ≡ triples b.stars.now = omega arith in
    let k : length (take n d.result) ≡ triples b.directions.now = omega (arith, length-take {A = ℤ} n d.result, d.ensures.eight, b.listed.few, c.count.ensures) in
    all-counted b.directions.now b.stars.now (take n d.result) l.votes b.tolerance x.i
    (λ j m. get_or-take n d.result j (pos 0) (omega arith) ∙ d.ensures.by_index j m)
    l.invariant.0
    (λ s. l.invariant.1 s ∙ ap (λ (m : ℕ). so_far (setting (take n d.result) m x.i b.stars.now b.tolerance) l.a s) k
    ∙ ap (λ (m : ℕ). so_far (setting (take n d.result) (triples b.directions.now) x.i b.stars.now b.tolerance) m s) u)
