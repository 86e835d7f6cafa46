-- One direction more.
use Rattle.std.proofs.Common.{◌≡◌, ◌∙◌, refl, ◌+◌, ◌*◌, set, length, w32, w64, arith, rules}
use Rattle.numbers.specs.Num.{arg, near, back, kept}
use Rattle.chain.specs.Sight.{directions_of}
use Rattle.chain.specs.SightLaws.{filled_next}
use Rattle.chain.proofs.sight.directions_of.Goals as goal

pub loop-k-init : goal.loop-k-init
unfolding directions_of
loop-k-init c = refl

pub direction_at-v-requires : goal.direction_at-v-requires
direction_at-v-requires c = c.requires.1.at c.loop-k.k

pub narrow-requires : goal.narrow-requires
narrow-requires c = near (arg {w = w64} c.direction_at-v.ensures.within3.x tt) tt

pub narrow-requires-in-loop-k : goal.narrow-requires-in-loop-k
narrow-requires-in-loop-k c = near (arg {w = w64} c.direction_at-v.ensures.within3.y tt) tt

pub narrow-requires-in-loop-k-2 : goal.narrow-requires-in-loop-k-2
narrow-requires-in-loop-k-2 c = near (arg {w = w64} c.direction_at-v.ensures.within3.z tt) tt

pub loop-k-preserved : goal.loop-k-preserved
loop-k-preserved c =
    let l = c.loop-k in
    let a = c.args in
    let w = c.direction_at-v.ensures.within3 in
    let long : length a.stars ≡ 8 = search rules in
    let x = kept w32 c.narrow.type_inv (c.narrow.ensures ∙ back (arg {w = w64} w.x tt)) in
    let y = kept w32 c.narrow-in-loop-k.type_inv (c.narrow-in-loop-k.ensures ∙ back (arg {w = w64} w.y tt)) in
    let z = kept w32 c.narrow-in-loop-k-2.type_inv (c.narrow-in-loop-k-2.ensures ∙ back (arg {w = w64} w.z tt)) in
    (λ i. set (set (set (l.invariant i) (3 * l.k) (x i)) (3 * l.k + 1) (y i)) (3 * l.k + 2) (z i))
    ∙ filled_next a.settings a.stars l.k (omega arith) (omega arith) c.direction_at-v.result c.direction_at-v.ensures.value
