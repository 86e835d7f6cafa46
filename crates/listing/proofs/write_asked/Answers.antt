-- No text is longer than the room, so all of it stands there.
use Rattle.std.proofs.Common.{◌≡◌, ap, List, ℕ, ◌≤◌, ◌<◌, arith}
use Rattle.std.specs.Prelude.{Result, Ok, Err}
use Rattle.refusal.specs.declared.Refusal.{Refusal}
use Rattle.chain.specs.declared.Settings.{Settings}
use Rattle.files.specs.Settings.{reading_of}
use Rattle.text.specs.Refused.{refusal_line}
use Rattle.text.specs.RoomLaws.{room-short, room-told}
use Rattle.listing.specs.declared.Asked.{Asked}
use Rattle.listing.specs.declared.Asked.TheVariants.{Listing, Rival}
use Rattle.listing.specs.Listing.{chain_on, samples_in}
use Rattle.listing.specs.Asked.{most_of, lines_of, read_text, asked_text}
use Rattle.listing.proofs.write_asked.Goals as goal

-- a refusal is shorter than any answer may be, and every answer than the room
most : (a : Asked) → (50 ≤ most_of a) × (most_of a < 2048)
most Listing = (omega arith, omega arith)
most Rival = (omega arith, omega arith)

module _ (asked : Asked) (settings frame catalogue : List ℕ) where
  read-text : {r : Result Settings Refusal} → r ≡ reading_of settings → read_text asked frame catalogue r ≡ asked_text asked settings frame catalogue
  unfolding asked_text
  read-text e = ap (λ (x : Result Settings Refusal). read_text asked frame catalogue x) e

  refused-text : (r : Refusal) → Err r ≡ reading_of settings → refusal_line r ≡ asked_text asked settings frame catalogue
  refused-text r e = read-text e

  listed-text : (s : Settings) → Ok s ≡ reading_of settings → lines_of asked (chain_on (samples_in frame s) catalogue s) ≡ asked_text asked settings frame catalogue
  listed-text s e = read-text e

pub returns-then-is_short-clause-value : goal.returns-then-is_short-clause-value
returns-then-is_short-clause-value c = (room-short 2048 _ _ c.if-is_short.true).0

pub returns-then-is_short-clause-room_after : goal.returns-then-is_short-clause-room_after
returns-then-is_short-clause-room_after c = (room-short 2048 _ _ c.if-is_short.true).1

pub returns-in-Err : goal.returns-in-Err
returns-in-Err c =
    let a = c.args in
    let t = refused-text a.asked a.settings.now a.frame.now a.catalogue.now _ c.in-Err.ensures.value in
    let b = room-told 2048 _ _ _ _ _ _ c.if-is_short.false (omega (arith, c.refused.ensures.upper_bound, (most a.asked).0)) (most a.asked).1 t
    c.refused.ensures.wrote in
    record { value = b.0; room_after = b.1.0; upper_bound = b.1.1 }

pub returns-in-Ok : goal.returns-in-Ok
returns-in-Ok c =
    let a = c.args in
    let t = listed-text a.asked a.settings.now a.frame.now a.catalogue.now _ c.in-Ok.ensures.value in
    let b = room-told 2048 _ _ _ _ _ _ c.if-is_short.false c.listed.ensures.upper_bound (most a.asked).1 t c.listed.ensures.wrote in
    record { value = b.0; room_after = b.1.0; upper_bound = b.1.1 }
