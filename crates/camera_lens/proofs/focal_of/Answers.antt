-- Where the lens passes its test, the whole part is taken. Assumes nothing.
use Rattle.std.specs.Prelude.{Float, Ok}
use Rattle.std.proofs.Common.{ℤ, pos, sym, ap, ◌∙◌, w64}
use mir.ValLaws.{to_z-of_z}
use Rattle.camera_lens.specs.Lens.{in_range, whole_of, focal_number, focal_answer}
use Rattle.camera_lens.specs.Laws.{answers, lens-in, lens-out}
use Rattle.camera_lens.proofs.Laws.{pixels-in}
use Rattle.camera_lens.proofs.focal_of.Goals as goal

pub whole-requires : goal.whole-requires
whole-requires c = ap (λ (q : Float). in_range q) c.pixels_of.ensures ∙ pixels-in c.args.lens (sym c.lens_ok.ensures ∙ c.if-lens_ok.true)

pub returns-then-lens_ok-clause-value : goal.returns-then-lens_ok-clause-value
unfolding focal_number
returns-then-lens_ok-clause-value c =
    let z = c.whole.result in
    let number = to_z-of_z w64 z (record { sfits = c.whole.type_inv }) ∙ c.whole.ensures ∙ ap (λ (q : Float). pos (whole_of q)) c.pixels_of.ensures in
    ap (λ (f : ℤ). Ok f) number ∙ sym (lens-in c.args.lens (sym c.lens_ok.ensures ∙ c.if-lens_ok.true))

pub returns-then-lens_ok-clause-result_value : goal.returns-then-lens_ok-clause-result_value
returns-then-lens_ok-clause-result_value c = ap focal_answer (returns-then-lens_ok-clause-value c) ∙ answers c.args.lens

pub returns-clause-value : goal.returns-clause-value
returns-clause-value c = sym (lens-out c.args.lens (sym c.lens_ok.ensures ∙ c.if-lens_ok.false))
