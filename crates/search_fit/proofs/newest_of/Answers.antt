-- The words from the place that was read on are no stars, or none of them is one.
use Rattle.std.proofs.Common.{◌-◌, get_or, pos, refl, ap, ◌∙◌, arith, w64, rules}
use mir.Val.{SFits}
use Rattle.std.proofs.Math.Facts.{to_z-of_z}
use Rattle.vectors.specs.Triples.{triple_at}
use Rattle.search_fit.proofs.Beside.{newest-at, newest-none}
use Rattle.search_fit.proofs.newest_of.Goals as goal

pub returns-then-star-count : goal.returns-then-star-count
returns-then-star-count c =
    let f : SFits w64 (get_or c.args.dots.now (c.loop-k.k - 1) (pos 0)) = search rules in
    let e = c.index-star.ensures in
    newest-at _ _ _ _ c.args.i (c.loop-k.k - 1) _ c.requires (omega arith) (omega arith) (λ q lq m. c.loop-k.invariant q lq (omega arith))
    refl e (c.triple_at.ensures ∙ ap (triple_at c.args.stars.now) e) (to_z-of_z f)

pub returns : goal.returns
returns c =
    newest-none _ _ _ _ c.args.i _ c.requires (λ q l. c.loop-k.invariant q l (omega arith)) refl refl
    (record { x = record { within = omega arith }; y = record { within = omega arith }; z = record { within = omega arith } })
    (record { within = omega arith })
