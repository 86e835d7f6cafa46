-- The builder's answer step by step, as the code meets it. Assumes nothing.
use Rattle.std.specs.Prelude.{◌≡◌, ℕ, ◌*◌, ◌<◌, ◌≤◌, true, false, List, ◌++◌, length, drop, ℤ}
use Rattle.std.proofs.Common.{arith, lt-ltb, le-ltb}
use Rattle.refusal.specs.declared.Refusal.{Refusal}
use Rattle.refusal.specs.Numbers as number
use Rattle.refusal.specs.Table.{first_applying}
use Rattle.refusal.proofs.Laws.{last-unasked, last-decides}
use Rattle.refusal.specs.AnswerLaws.{answer_by}
use Rattle.refusal.specs.Counted.{count_answer}
use Rattle.refusal.proofs.CountedLaws.{count_by}
use Rattle.catalogue.specs.Check as catalogue
use Rattle.catalogue.specs.CheckLaws.{valid-accepted}
use Rattle.catalogue.specs.Stars.{stars_of}
use Rattle.catalogue.specs.Valid.{Valid}
use Rattle.catalogue.specs.ValidStars.{valid-length, valid-within}
use Rattle.vectors.specs.Triples.{Listed}
use Rattle.catalogue_index.specs.records.FormatLaws.{encoded-length}
use Rattle.catalogue_index.specs.Index.{keys_of, index_of}
use Rattle.catalogue_index.specs.Build.{room_short, refusals_of, built_of, room_after, built_from, room_from, answer_for}
use Rattle.std.specs.Prelude.{Ok, Err}

pub index-length : (stars : List ℤ) (floor : ℤ) → length (index_of stars floor) ≡ 12 * length (keys_of stars floor)
unfolding index_of
index-length stars floor = encoded-length (keys_of stars floor)

-- ---- of decoded stars

module _ (stars : List ℤ) (floor : ℤ) (room : List ℕ) where
  module _ (h : length room < 12 * length (keys_of stars floor)) where
    short : room_short stars floor (length room) ≡ true
    short = lt-ltb (length room) (length (index_of stars floor)) (omega (arith, index-length stars floor))

    pub refused-from : built_from stars floor (length room) ≡ Err (record { number = number.index_room; place = 0 })
    unfolding built_from
    refused-from = rw short

    pub kept_from : room_from stars floor room ≡ room
    unfolding room_from
    kept_from = rw short

  module _ (h : 12 * length (keys_of stars floor) ≤ length room) where
    enough : room_short stars floor (length room) ≡ false
    enough = le-ltb (length room) (length (index_of stars floor)) (omega (arith, index-length stars floor))

    pub records-from : built_from stars floor (length room) ≡ Ok (length (keys_of stars floor))
    unfolding built_from
    records-from = rw enough

    pub written_from : room_from stars floor room ≡ index_of stars floor ++ drop (12 * length (keys_of stars floor)) room
    unfolding room_from
    written_from = rw (enough, index-length)

-- ---- of a catalogue's bytes

pub valid-listed : (bytes : List ℕ) → Valid bytes → Listed 512 (stars_of bytes)
valid-listed bytes v = record { few = omega (arith, valid-length bytes v, v.size.most); near = valid-within bytes v }

module _ (bytes : List ℕ) (floor : ℤ) where
  abbrev records : ℕ
  records = length (keys_of (stars_of bytes) floor)

  -- the room with the index at its front
  abbrev with-index : List ℕ → List ℕ
  with-index room = index_of (stars_of bytes) floor ++ drop (length (index_of (stars_of bytes) floor)) room

  -- the answer in document 01's terms
  pub answers : (size : ℕ) → count_answer (built_of bytes floor size) ≡ answer_for bytes floor size
  unfolding built_of refusals_of catalogue.refusals_of answer_by
  answers size = count_by records (refusals_of bytes floor size)

  -- the catalogue is refused
  module _ (r : Refusal) (e : first_applying (catalogue.refusals_of bytes) ≡ Err r) where
    pub catalogue-refused : (size : ℕ) → built_of bytes floor size ≡ Err r
    unfolding built_of refusals_of
    catalogue-refused size = last-unasked Err (Ok records) (catalogue.refusals_of bytes) (room_short (stars_of bytes) floor size) number.index_room r e

    pub catalogue-kept : (room : List ℕ) → room_after bytes floor room ≡ room
    unfolding room_after refusals_of
    catalogue-kept room = last-unasked (λ _. room) (with-index room) (catalogue.refusals_of bytes) (room_short (stars_of bytes) floor (length room))
        number.index_room r e

  -- it is valid: the rest is as of the stars
  module _ (v : Valid bytes) where
    pub valid-built : (size : ℕ) → built_of bytes floor size ≡ built_from (stars_of bytes) floor size
    unfolding built_of refusals_of built_from
    valid-built size = last-decides Err (Ok records) (catalogue.refusals_of bytes) (room_short (stars_of bytes) floor size) number.index_room
        (valid-accepted bytes v)

    pub valid-room : (room : List ℕ) → room_after bytes floor room ≡ room_from (stars_of bytes) floor room
    unfolding room_after refusals_of room_from
    valid-room room = last-decides (λ _. room) (with-index room) (catalogue.refusals_of bytes) (room_short (stars_of bytes) floor (length room)) number.index_room
        (valid-accepted bytes v)
