-- It tests the centre, then the position, and takes the difference only of two that are in range. Assumes nothing.
use Rattle.std.specs.Prelude.{Bool, true, ◌≡◌, ℤ, Ok}
use Rattle.std.proofs.Common.{sym, ap, ◌∙◌, w64, to_z, of_z}
use mir.Val.{SFits}
use Rattle.numbers.specs.Num.{Num, param, arg, sub, fits, back, near}
use Rattle.camera_direction.specs.Settings.{position_ok}
use Rattle.camera_direction.specs.SettingsLaws.{ok-position, between-within}
use Rattle.camera_direction.specs.Position.{toward_of}
use Rattle.camera_direction.specs.Direction.{direction_answer}
use Rattle.camera_direction.proofs.DirectionLaws.{centre-out, position-out, in-range, answers}
use Rattle.camera_direction.proofs.direction_by_focal.Goals as goal

-- a test, of the numbers themselves
tested : {x y : ℤ} {r t : Bool} → SFits w64 x → SFits w64 y → r ≡ position_ok (to_z w64 (of_z w64 x)) (to_z w64 (of_z w64 y)) → r ≡ t → position_ok x y ≡ t
tested f g e h = (λ i. position_ok (sym (back (param f)) i) (sym (back (param g)) i)) ∙ sym e ∙ h

-- how far a position that is in range lies from the centre
module _ (cx cy x y : ℤ) (c : position_ok cx cy ≡ true) (p : position_ok x y ≡ true) where
  abbrev across : Num w64
  across = sub (arg (between-within _ _ (ok-position x y p).across) tt) (arg (between-within _ _ (ok-position cx cy c).across) tt) tt

  abbrev down : Num w64
  down = sub (arg (between-within _ _ (ok-position x y p).down) tt) (arg (between-within _ _ (ok-position cx cy c).down) tt) tt

pub returns-then-not-position_ok-clause-value : goal.returns-then-not-position_ok-clause-value
returns-then-not-position_ok-clause-value c =
    c.refused.ensures ∙ sym (centre-out _ _ _ _ _ (tested c.ranges.cx c.ranges.cy c.position_ok.ensures c.if-not-position_ok.true))

pub returns-then-not-position_ok-2-clause-value : goal.returns-then-not-position_ok-2-clause-value
returns-then-not-position_ok-2-clause-value c =
    c.refused-then-not-position_ok-2.ensures
    ∙ sym (position-out _ _ _ _ _ (tested c.ranges.x c.ranges.y c.position_ok-2.ensures c.if-not-position_ok-2.true))

pub overflow_sub-x : goal.overflow_sub-x
overflow_sub-x c =
    let centre = tested c.ranges.cx c.ranges.cy c.position_ok.ensures c.if-not-position_ok.false in
    let place = tested c.ranges.x c.ranges.y c.position_ok-2.ensures c.if-not-position_ok-2.false in
    fits (across _ _ _ _ centre place)

pub overflow_sub-y : goal.overflow_sub-y
overflow_sub-y c =
    let centre = tested c.ranges.cx c.ranges.cy c.position_ok.ensures c.if-not-position_ok.false in
    let place = tested c.ranges.x c.ranges.y c.position_ok-2.ensures c.if-not-position_ok-2.false in
    fits (down _ _ _ _ centre place)

pub toward-requires-clause-within : goal.toward-requires-clause-within
toward-requires-clause-within c =
    let centre = tested c.ranges.cx c.ranges.cy c.position_ok.ensures c.if-not-position_ok.false in
    let place = tested c.ranges.x c.ranges.y c.position_ok-2.ensures c.if-not-position_ok-2.false in
    near (across _ _ _ _ centre place) tt

pub toward-requires-clause-within_2 : goal.toward-requires-clause-within_2
toward-requires-clause-within_2 c =
    let centre = tested c.ranges.cx c.ranges.cy c.position_ok.ensures c.if-not-position_ok.false in
    let place = tested c.ranges.x c.ranges.y c.position_ok-2.ensures c.if-not-position_ok-2.false in
    near (down _ _ _ _ centre place) tt

pub returns-clause-value : goal.returns-clause-value
returns-clause-value c =
    let centre = tested c.ranges.cx c.ranges.cy c.position_ok.ensures c.if-not-position_ok.false in
    let place = tested c.ranges.x c.ranges.y c.position_ok-2.ensures c.if-not-position_ok-2.false in
    let focal = arg {w = w64} (between-within _ _ c.requires) tt in
    let e = c.toward.ensures ∙ (λ i. toward_of (back (across _ _ _ _ centre place) i) (back (down _ _ _ _ centre place) i) (back focal i)) in
    ap Ok e ∙ sym (in-range _ _ _ _ _ centre place)

pub returns-clause-result_value : goal.returns-clause-result_value
returns-clause-result_value c =
    let a = c.args in
    ap direction_answer (returns-clause-value c) ∙ answers a.cx a.cy a.focal a.x a.y
