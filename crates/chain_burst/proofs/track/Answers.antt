-- The refusal of the whole burst and nothing written, or all frames in their order.
use Rattle.std.proofs.Common.{sym, ap, ◌∙◌, arith}
use Rattle.std.proofs.lemmas.Result.{err_from_is_err_and}
use Rattle.refusal.specs.Counted.{count_answer}
use Rattle.frame_list.specs.input.InputLaws.{size-most}
use Rattle.chain_burst.specs.Burst.{call}
use Rattle.chain_burst.specs.Admit.{size-some, accepted-size, accepted-whole, answers}
use Rattle.chain_burst.specs.Laws.{refused-answer, refused-records, refused-room}
use Rattle.chain_burst.proofs.Laws.{accepted-answer, accepted-records, accepted-room}
use Rattle.chain_burst.proofs.track.Goals as goal

pub overflow_mul-size : goal.overflow_mul-size
overflow_mul-size c =
    let s = c.args.settings in
    omega (arith, size-most s.width s.height (accepted-size _ _ _ _ (sym c.in_ok-outcome.ensures)))

pub nonzero_div-count : goal.nonzero_div-count
nonzero_div-count c = size-some _ _ (accepted-size _ _ _ _ (sym c.in_ok-outcome.ensures))

pub track_frames-requires : goal.track_frames-requires
track_frames-requires c = accepted-whole _ _ _ _ (sym c.in_ok-outcome.ensures)

pub returns-in_err-outcome-clause-value : goal.returns-in_err-outcome-clause-value
returns-in_err-outcome-clause-value c =
    let a = c.args in
    let w = call a.samples.now a.catalogue.now a.settings a.room.now a.records.now in
    let p = err_from_is_err_and c.from_residual.result c.from_residual.ensures.1 in
    rw (p.1, p.2) (sym (refused-answer w _ (sym c.in_err-outcome.ensures)))

pub returns-in_err-outcome-clause-result_value : goal.returns-in_err-outcome-clause-result_value
returns-in_err-outcome-clause-result_value c =
    let a = c.args in
    ap count_answer (returns-in_err-outcome-clause-value c) ∙ answers (call a.samples.now a.catalogue.now a.settings a.room.now a.records.now)

pub returns-in_err-outcome-clause-records_after : goal.returns-in_err-outcome-clause-records_after
returns-in_err-outcome-clause-records_after c =
    let a = c.args in
    sym (refused-records (call a.samples.now a.catalogue.now a.settings a.room.now a.records.now) _ (sym c.in_err-outcome.ensures))

pub returns-in_err-outcome-clause-room_after : goal.returns-in_err-outcome-clause-room_after
returns-in_err-outcome-clause-room_after c =
    let a = c.args in
    sym (refused-room (call a.samples.now a.catalogue.now a.settings a.room.now a.records.now) _ (sym c.in_err-outcome.ensures))

pub returns-clause-value : goal.returns-clause-value
returns-clause-value c =
    let a = c.args in
    sym (accepted-answer (call a.samples.now a.catalogue.now a.settings a.room.now a.records.now) (sym c.in_ok-outcome.ensures))

pub returns-clause-result_value : goal.returns-clause-result_value
returns-clause-result_value c =
    let a = c.args in
    ap count_answer (returns-clause-value c) ∙ answers (call a.samples.now a.catalogue.now a.settings a.room.now a.records.now)

pub returns-clause-records_after : goal.returns-clause-records_after
returns-clause-records_after c =
    let a = c.args in
    c.track_frames.ensures.records_after
    ∙ sym (accepted-records (call a.samples.now a.catalogue.now a.settings a.room.now a.records.now) (sym c.in_ok-outcome.ensures))

pub returns-clause-room_after : goal.returns-clause-room_after
returns-clause-room_after c =
    let a = c.args in
    c.track_frames.ensures.room_after
    ∙ sym (accepted-room (call a.samples.now a.catalogue.now a.settings a.room.now a.records.now) (sym c.in_ok-outcome.ensures))
