-- `camera_lens::lens_ok`: its two tests are those of the definition. Assumes nothing.
use Rattle.std.proofs.Common.{◌≡◌, Bool, ◌&&◌, sym, ap, ◌∙◌}
use Rattle.std.specs.Prelude.{Float}
use Rattle.camera_lens.specs.declared.Lens.{Lens}
use Rattle.camera_lens.specs.Lens.{pixels_of, all_above, in_range, lens_ok}
use Rattle.camera_lens.proofs.lens_ok.Goals as goal

-- with the first test's answer known
by_first : (l : Lens) {a t : Bool} → a ≡ all_above l → a ≡ t → (t && in_range (pixels_of l)) ≡ lens_ok l
unfolding lens_ok
by_first l e h = ap (λ (t : Bool). t && in_range (pixels_of l)) (sym h ∙ e)

pub returns-then-all_above : goal.returns-then-all_above
returns-then-all_above c =
    c.in_range.ensures ∙ ap (λ (q : Float). in_range q) c.pixels_of.ensures ∙ by_first c.args.lens c.all_above.ensures c.if-all_above.true

pub returns-else-all_above : goal.returns-else-all_above
returns-else-all_above c = c.if-all_above.false ∙ by_first c.args.lens c.all_above.ensures c.if-all_above.false
