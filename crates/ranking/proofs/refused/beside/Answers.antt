-- `ranking::refused::beside`: each test on the way is a row's. Assumes nothing.
use Rattle.std.proofs.Common.{◌≡◌, true, sym, ◌∙◌, arith}
use native.Mathlib.Nat.{mul-le-mul}
use Rattle.camera_direction.specs.List.{list_ok}
use Rattle.camera_direction.specs.ListLaws.{ok-directions}
use Rattle.ranking.specs.RefusalSteps.{list-refused, tolerance-refused, room-refused, none-refused}
use Rattle.ranking.proofs.refused.beside.Goals as goal

pub returns-then-not-list_ok : goal.returns-then-not-list_ok
returns-then-not-list_ok c = c.plain.ensures ∙ sym (list-refused _ _ _ _ (sym c.list_ok.ensures ∙ c.if-not-list_ok.true))

pub returns-then-is_wide : goal.returns-then-is_wide
returns-then-is_wide c =
    c.plain-then-is_wide.ensures ∙ sym (tolerance-refused _ _ _ _ (sym c.list_ok.ensures ∙ c.if-not-list_ok.false) c.if-is_wide.true)

pub overflow_mul-directions : goal.overflow_mul-directions
overflow_mul-directions c =
    let kept : list_ok c.args.directions.now ≡ true = sym c.list_ok.ensures ∙ c.if-not-list_ok.false in
    omega (arith, mul-le-mul (ok-directions c.args.directions.now kept).most c.requires)

pub returns-then-words-directions : goal.returns-then-words-directions
returns-then-words-directions c =
    c.plain-then-words-directions.ensures
    ∙ sym (room-refused _ _ _ _ (sym c.list_ok.ensures ∙ c.if-not-list_ok.false) c.if-is_wide.false c.if-words-directions.true)

pub returns : goal.returns
returns c = sym (none-refused _ _ _ _ (sym c.list_ok.ensures ∙ c.if-not-list_ok.false) c.if-is_wide.false c.if-words-directions.false)
