-- A text that was written into a room, as the room with the text. Assumes nothing.
use Rattle.std.proofs.Common.{lt-ltb, le-ltb, ◌∙◌, subst}
use Rattle.std.specs.Prelude.{◌≡◌, refl, List, ◌++◌, ℕ, ◌+◌, ◌≤◌, ◌<◌}
use Rattle.std.proofs.Math.Path.{ap}
use native.Mathlib.Omega.{arith}
use Rattle.std.proofs.Math.ListN.{length, drop}
use Rattle.text.specs.Written.{Wrote}
use Rattle.text.specs.WrittenLaws.{written-whole}
use Rattle.text.specs.Room.{room_with, length_in}

module _ (size : ℕ) (room text : List ℕ) where
  pub room-short : length room < size → (0 ≡ length_in size room text) × (room ≡ room_with size room text)
  unfolding length_in room_with
  room-short h = rw (lt-ltb (length room) size h) (refl, refl)

  -- bytes that ended before the room's end are all there
  pub room_whole : (after : List ℕ) (r : ℕ) → size ≤ length room → r < size → Wrote room 0 text after r → (r ≡ length_in size room text)
      × (after ≡ room_with size room text)
  unfolding length_in room_with
  room_whole after r h k p =
      let l : r ≡ length text = omega (arith, p.place) in
      let z : 0 + length text ≡ length text = omega arith in
      rw (le-ltb (length room) size h)
      (l, p.room ∙ written-whole room 0 text (omega arith) ∙ ap (λ (n : ℕ). text ++ drop n room) z)

  -- the same of a text by another name, and how many bytes it has at most
  pub room-told : (line after : List ℕ) (r most : ℕ) → size ≤ length room → r ≤ most → most < size → line ≡ text → Wrote room 0 line after r
      → (r ≡ length_in size room text) × ((after ≡ room_with size room text) × (r ≤ most))
  room-told line after r most h k m e p =
      let b = room_whole after r h (omega arith) (subst (λ (x : List ℕ). Wrote room 0 x after r) e p) in
      (b.0, (b.1, k))
