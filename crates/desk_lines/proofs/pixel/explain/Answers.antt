-- The part of the array that is lent is the frame file's samples.
use Rattle.std.proofs.Common.{sym, ap, ◌∙◌, List, ℕ, length-take-le}
use Rattle.files.specs.Samples.{lent-within, lent-samples}
use Rattle.frame_reason.specs.Reason.{explanation_of}
use Rattle.desk_lines.specs.Why.{explained_with}
use Rattle.desk_lines.proofs.pixel.explain.Goals as goal

pub slice_bounds-samples-end : goal.slice_bounds-samples-end
slice_bounds-samples-end c = lent-within _ _ _ _ c.read_samples-count.ensures.room_after

pub slice_bounds-explain-end : goal.slice_bounds-explain-end
slice_bounds-explain-end c = sym (length-take-le _ _ (lent-within _ _ _ _ c.read_samples-count.ensures.room_after))

pub returns : goal.returns
unfolding explained_with
returns c =
    let a = c.args in
    let s = a.settings in
    let e = lent-samples _ _ _ _ _ _ c.read_samples-count.ensures.room_after c.read_samples-count.ensures.value in
    c.explain.ensures.value ∙ ap (λ (xs : List ℕ). explanation_of xs s.width s.height s.threshold a.row a.column) e
