-- The catalogues' refusal, that of the room, or the list: what the rows come to settles the answer and the room.
use Rattle.std.proofs.Common.{length, sym, ap, ◌∙◌, arith}
use Rattle.std.proofs.lemmas.Result.{err_from_is_err_and}
use Rattle.std.specs.Prelude.{Ok}
use Rattle.refusal.specs.Counted.{count_answer}
use Rattle.catalogue_compare.proofs.CompareSteps.{both-valid, compared, answers, refused, too_short, long-enough, room_after_lem}
use Rattle.catalogue_compare.proofs.compare.Goals as goal

pub count-records-requires : goal.count-records-requires
count-records-requires c = both-valid _ _ (sym c.in_ok-judge.ensures)

pub returns-in_err-judge-clause-value : goal.returns-in_err-judge-clause-value
returns-in_err-judge-clause-value c =
    let a = c.args in
    let p = err_from_is_err_and c.from_residual.result c.from_residual.ensures.1 in
    rw (p.1, p.2) (sym (compared a.first.now a.second.now _ (refused _ _ (length a.room.now) _ (sym c.in_err-judge.ensures))))

pub returns-in_err-judge-clause-room_after : goal.returns-in_err-judge-clause-room_after
returns-in_err-judge-clause-room_after c =
    let a = c.args in
    sym (room_after_lem a.first.now a.second.now a.room.now (refused _ _ (length a.room.now) _ (sym c.in_err-judge.ensures)))

pub returns-in_err-judge-clause-result_value : goal.returns-in_err-judge-clause-result_value
returns-in_err-judge-clause-result_value c =
    let a = c.args in
    ap count_answer (returns-in_err-judge-clause-value c) ∙ answers a.first.now a.second.now (length a.room.now)

pub returns-then-room-records-clause-value : goal.returns-then-room-records-clause-value
returns-then-room-records-clause-value c =
    let a = c.args in
    let e = too_short _ _ (length a.room.now) (sym c.in_ok-judge.ensures) (omega (arith, c.count-records.ensures.0)) in
    sym (compared a.first.now a.second.now _ e)

pub returns-then-room-records-clause-room_after : goal.returns-then-room-records-clause-room_after
returns-then-room-records-clause-room_after c =
    let a = c.args in
    let e = too_short _ _ (length a.room.now) (sym c.in_ok-judge.ensures) (omega (arith, c.count-records.ensures.0)) in
    sym (room_after_lem a.first.now a.second.now a.room.now e)

pub returns-then-room-records-clause-result_value : goal.returns-then-room-records-clause-result_value
returns-then-room-records-clause-result_value c =
    let a = c.args in
    ap count_answer (returns-then-room-records-clause-value c) ∙ answers a.first.now a.second.now (length a.room.now)

pub write-requires : goal.write-requires
write-requires c = record {
  valid = both-valid _ _ (sym c.in_ok-judge.ensures);
  second_in_bounds = omega (arith, c.count-records.ensures.0);
}

pub returns-clause-value : goal.returns-clause-value
returns-clause-value c =
    let a = c.args in
    let e = long-enough _ _ (length a.room.now) (sym c.in_ok-judge.ensures) (omega (arith, c.count-records.ensures.0)) in
    ap Ok c.count-records.ensures.0 ∙ sym (compared a.first.now a.second.now _ e)

pub returns-clause-room_after : goal.returns-clause-room_after
returns-clause-room_after c =
    let a = c.args in
    let e = long-enough _ _ (length a.room.now) (sym c.in_ok-judge.ensures) (omega (arith, c.count-records.ensures.0)) in
    c.write.ensures ∙ sym (room_after_lem a.first.now a.second.now a.room.now e)

pub returns-clause-result_value : goal.returns-clause-result_value
returns-clause-result_value c =
    let a = c.args in
    ap count_answer (returns-clause-value c) ∙ answers a.first.now a.second.now (length a.room.now)
