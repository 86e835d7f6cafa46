-- No line is longer than the room, so all of it stands there.
use Rattle.std.proofs.Common.{◌≡◌, ap, ◌∙◌, List, ℕ, arith}
use Rattle.std.specs.Prelude.{Result, Ok, Err}
use Rattle.refusal.specs.declared.Refusal.{Refusal}
use Rattle.chain.specs.declared.Settings.{Settings}
use Rattle.files.specs.Settings.{reading_of}
use Rattle.text.specs.Refused.{refusal_line}
use Rattle.text.specs.RoomLaws.{room-short, room-told}
use Rattle.frame_reason.specs.declared.Reason.{Reason}
use Rattle.desk_lines.specs.Why.{explanation_line, explained, explained_with, why_text}
use Rattle.desk_lines.proofs.pixel.why.Goals as goal

module _ (settings frame : List ℕ) (row column : ℕ) where
  line_of : {reading : Result Settings Refusal} → reading ≡ reading_of settings → explanation_line (explained frame row column reading) ≡ why_text settings frame row column
  unfolding why_text
  line_of e = ap (λ (x : Result Settings Refusal). explanation_line (explained frame row column x)) e

  refused-line : (r : Refusal) → Err r ≡ reading_of settings → refusal_line r ≡ why_text settings frame row column
  refused-line r e = line_of e

  read-line : (s : Settings) (x : Result Reason Refusal) → Ok s ≡ reading_of settings → x ≡ explained_with frame row column s
      → explanation_line x ≡ why_text settings frame row column
  read-line s x e f = ap explanation_line f ∙ line_of e

pub returns-then-is_short-clause-value : goal.returns-then-is_short-clause-value
returns-then-is_short-clause-value c = (room-short 128 _ _ c.if-is_short.true).0

pub returns-then-is_short-clause-room_after : goal.returns-then-is_short-clause-room_after
returns-then-is_short-clause-room_after c = (room-short 128 _ _ c.if-is_short.true).1

pub returns-in-Err : goal.returns-in-Err
returns-in-Err c =
    let a = c.args in
    let t = refused-line a.settings.now a.frame.now a.row a.column _ c.in-Err.ensures.value in
    let b = room-told 128 _ _ _ _ _ 72 c.if-is_short.false (omega (arith, c.refused.ensures.upper_bound)) (omega arith) t c.refused.ensures.wrote in
    record { value = b.0; room_after = b.1.0; upper_bound = b.1.1 }

pub returns-in-Ok : goal.returns-in-Ok
returns-in-Ok c =
    let a = c.args in
    let t = read-line a.settings.now a.frame.now a.row a.column _ _ c.in-Ok.ensures.value c.explain-explanation.ensures in
    let b = room-told 128 _ _ _ _ _ 72 c.if-is_short.false c.line.ensures.upper_bound (omega arith) t c.line.ensures.wrote in
    record { value = b.0; room_after = b.1.0; upper_bound = b.1.1 }
