-- One more guide as after the frame.
use Rattle.std.proofs.Common.{◌≡◌, refl, ap, ◌∙◌, sym, ℕ, ◌+◌, List, set, add-one}
use Rattle.frame_list.specs.declared.Report.{Report}
use Rattle.guider_rule.specs.declared.Guide.{Guide}
use Rattle.guider_rule.specs.declared.Guider.{Guider}
use Rattle.guider_rule.specs.Guider.{guide_after, guides_after}
use Rattle.guider.proofs.boxes.guides_after.Goals as goal

after_next : (g : Guider) (r : Report) (i : ℕ) → guides_after g r (i + 1) ≡ set (guides_after g r i) i (guide_after g r i)
unfolding guides_after
after_next g r i = rw add-one refl

pub loop-i-init : goal.loop-i-init
unfolding guides_after
loop-i-init c = refl

pub loop-i-preserved : goal.loop-i-preserved
loop-i-preserved c =
    let e = after_next c.args.boxes.now.guider c.args.boxes.now.report c.loop-i.i in
    let i : c.loop-i.guides ≡ guides_after c.args.boxes.now.guider c.args.boxes.now.report c.loop-i.i = c.loop-i.invariant in
    ap (set c.loop-i.guides c.loop-i.i) c.guide_after.ensures
    ∙ ap (λ (gs : List Guide). set gs c.loop-i.i (guide_after c.args.boxes.now.guider c.args.boxes.now.report c.loop-i.i)) i
    ∙ sym e
