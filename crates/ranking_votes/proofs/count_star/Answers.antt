-- `ranking_votes::count_star`: what the pair gives is added to either star's counter, and star a's is stored at the end. Assumes nothing.
use Rattle.std.proofs.Common.{◌≡◌, ◌∙◌, ℕ, ℤ, List, ◌+◌, ◌<◌, ◌≤◌, sym, ap, length, get_or, below_none, arith}
use mir.Syntax.{w64}
use Rattle.numbers.specs.Num.{kept}
use Rattle.lists.specs.Number.{number}
use Rattle.vectors.specs.Triples.{pair_dot}
use Rattle.ranking_votes.specs.Progress.{Setting, setting, agrees_with, from, between}
use Rattle.ranking_votes.specs.ProgressLaws.{from-none, from-most, between-most}
use Rattle.ranking_votes.proofs.Counters.{Left, counter, passed-next, left-next, own-next, counted}
use Rattle.ranking_votes.proofs.count_star.Goals as goal

-- what the pair gives
gives : (g : Setting) (a b more : ℕ) (p : ℤ) → p ≡ pair_dot g.stars a b → more ≡ number g.count (agrees_with g.products g.i p g.tolerance) → more ≡ between g a b
unfolding between
gives g a b more p e m = m ∙ ap (λ (q : ℤ). number g.count (agrees_with g.products g.i q g.tolerance)) e

-- how large the counters are
raised-most :
    (g : Setting) (a b more own : ℕ) (votes : List ℕ) → g.count ≤ 8 → a < 512 → b < a → b < length votes → more ≡ between g a b → Left g a b votes
    → own ≡ from g b a
    → (get_or votes b 0 + more ≤ 4104) × (own + more ≤ 4104)
raised-most g a b more own votes few small before here e left o =
    let m = between-most g a b in
    let k = counter g a b more votes before here e left in
    let p = from-most g a b few in
    let q = from-most g b a few in
    (omega arith, omega arith)

pub loop-b-init : goal.loop-b-init
loop-b-init c = (below_none _, (λ k h. c.requires.by_index k), sym (from-none _ _))

pub overflow_add-votes : goal.overflow_add-votes
overflow_add-votes c =
    let l = c.loop-b in
    let x = c.args in
    let t = x.target.now in
    let s = setting t.products.now (length t.products.now) t.i x.stars.now t.tolerance in
    let d = c.pair_dot-pair in
    let g = gives s x.a l.b c.agreeing_near-more.result _ (kept w64 d.type_inv d.ensures.value) c.agreeing_near-more.ensures in
    let most = raised-most s x.a l.b _ l.own l.votes t.few (omega (arith, c.requires.listed.few)) (omega arith) (omega arith) g l.invariant.1 l.invariant.2 in
    omega (arith, most)

pub overflow_add-own : goal.overflow_add-own
overflow_add-own c =
    let l = c.loop-b in
    let x = c.args in
    let t = x.target.now in
    let s = setting t.products.now (length t.products.now) t.i x.stars.now t.tolerance in
    let d = c.pair_dot-pair in
    let g = gives s x.a l.b c.agreeing_near-more.result _ (kept w64 d.type_inv d.ensures.value) c.agreeing_near-more.ensures in
    let most = raised-most s x.a l.b _ l.own l.votes t.few (omega (arith, c.requires.listed.few)) (omega arith) (omega arith) g l.invariant.1 l.invariant.2 in
    omega (arith, most)

pub loop-b-preserved : goal.loop-b-preserved
loop-b-preserved c =
    let l = c.loop-b in
    let x = c.args in
    let t = x.target.now in
    let s = setting t.products.now (length t.products.now) t.i x.stars.now t.tolerance in
    let d = c.pair_dot-pair in
    let g = gives s x.a l.b c.agreeing_near-more.result _ (kept w64 d.type_inv d.ensures.value) c.agreeing_near-more.ensures in
    let h : l.b < x.a = omega arith in
    let n : l.b < length l.votes = omega arith in (
      passed-next s x.a l.b _ l.votes h n g l.invariant.1 l.invariant.0,
      left-next s x.a l.b _ l.votes h n g l.invariant.1,
      own-next s x.a l.b _ l.votes h n g l.invariant.1 l.own l.invariant.2,
    )

pub returns : goal.returns
returns c =
    let l = c.loop-b in
    let x = c.args in
    let t = x.target.now in
    let s = setting t.products.now (length t.products.now) t.i x.stars.now t.tolerance in
    let e : l.b ≡ x.a = omega arith in
    counted s x.a l.own l.votes (omega arith)
    (λ k h. l.invariant.0 k (omega arith)) (λ k h. l.invariant.1 k (omega arith)) (l.invariant.2 ∙ ap (λ (n : ℕ). from s n x.a) e)
