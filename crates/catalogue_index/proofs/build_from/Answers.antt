-- The records are written in the order in which they are found, and their part of the room is sorted.
use Rattle.std.proofs.Common.{◌≡◌, ℕ, ◌*◌, List, ◌++◌, length, take, drop, ℤ, sym, ap, ◌∙◌, w64, arith}
use Rattle.std.specs.Prelude.{Ok}
use Rattle.std.proofs.lemmas.Int.{to_z-of_z}
use Rattle.vectors.specs.Triples.{triples, Listed}
use Rattle.catalogue_index.specs.records.Format.{encoded}
use Rattle.catalogue_index.specs.records.Order.{sorted}
use Rattle.catalogue_index.specs.records.Gap.{Holds}
use Rattle.catalogue_index.specs.Raised.{raised}
use Rattle.catalogue_index.specs.Index.{pairs_of, keys_of, index_of}
use Rattle.catalogue_index.specs.IndexSteps.{keys_length, index_is}
use Rattle.catalogue_index.specs.KeyLaws.{pairs-keys}
use Rattle.catalogue_index.specs.GrownLaws.{front_of, rest_of}
use Rattle.catalogue_index.specs.BuildLaws.{refused-from, kept_from, records-from, written_from}
use Rattle.catalogue_index.proofs.build_from.Goals as goal

-- the pairs that are found of the stars, for a floor that is moved up
module _ (stars : List ℤ) (floor : ℤ) (others : List ℤ) (f : ℕ) (d : others ≡ stars) (e : f ≡ raised floor) where
  abbrev found : List ℕ
  found = pairs_of others f (triples others)

  found-is : found ≡ pairs_of stars (raised floor) (triples stars)
  found-is = λ i. pairs_of (d i) (e i) (triples (d i))

  many : length found ≡ length (keys_of stars floor)
  many = ap length found-is ∙ sym (keys_length stars floor)

  -- they stand at the front of a room, which is sorted then
  filled : (s : Listed 512 others) (n : ℕ) → n ≡ length found → (room before front : List ℕ) → before ≡ encoded found ++ drop (12 * length found) room
      → ((ks : List ℕ) → Holds ks (take (12 * n) before) → front ≡ encoded (sorted ks))
      → front ++ drop (12 * n) before ≡ index_of stars floor ++ drop (12 * length (keys_of stars floor)) room
  filled s n l room before front w h =
      let rest = drop (12 * length found) room in
      let held : Holds found (take (12 * n) before) =
      record { is = front_of found rest before n l w; keys = pairs-keys others s f (triples others) s.few } in
      let sorted-front = h found held ∙ ap (λ (ks : List ℕ). encoded (sorted ks)) found-is ∙ index_is stars floor in
      λ i. sorted-front i ++ (rest_of found rest before n l w ∙ ap (λ (m : ℕ). drop (12 * m) room) many) i

pub returns-then-room-records-clause-value : goal.returns-then-room-records-clause-value
returns-then-room-records-clause-value c =
    let x = c.args in
    let p = c.new-pairs in
    let e = p.ensures.floor ∙ ap raised (to_z-of_z w64 x.floor c.ranges.floor) in
    let m = many x.stars.now x.floor p.result.stars.now p.result.floor p.ensures.stars e in
    sym (refused-from x.stars.now x.floor x.room.now (omega (arith, c.count-records.ensures.value)))

pub returns-then-room-records-clause-room_after : goal.returns-then-room-records-clause-room_after
returns-then-room-records-clause-room_after c =
    let x = c.args in
    let p = c.new-pairs in
    let e = p.ensures.floor ∙ ap raised (to_z-of_z w64 x.floor c.ranges.floor) in
    let m = many x.stars.now x.floor p.result.stars.now p.result.floor p.ensures.stars e in
    sym (kept_from x.stars.now x.floor x.room.now (omega (arith, c.count-records.ensures.value)))

pub returns-clause-value : goal.returns-clause-value
returns-clause-value c =
    let x = c.args in
    let p = c.new-pairs in
    let e = p.ensures.floor ∙ ap raised (to_z-of_z w64 x.floor c.ranges.floor) in
    let m = many x.stars.now x.floor p.result.stars.now p.result.floor p.ensures.stars e in
    ap Ok (c.count-records.ensures.value ∙ m) ∙ sym (records-from x.stars.now x.floor x.room.now (omega (arith, c.count-records.ensures.value)))

pub returns-clause-room_after : goal.returns-clause-room_after
returns-clause-room_after c =
    let x = c.args in
    let p = c.new-pairs in
    let v = c.count-records.ensures.value in
    let e = p.ensures.floor ∙ ap raised (to_z-of_z w64 x.floor c.ranges.floor) in
    let m = many x.stars.now x.floor p.result.stars.now p.result.floor p.ensures.stars e in
    filled x.stars.now x.floor p.result.stars.now p.result.floor p.ensures.stars e p.result.listed c.count-records.result v x.room.now c.write.new.room
    c.sort.new.room c.write.ensures c.sort.ensures
    ∙ sym (written_from x.stars.now x.floor x.room.now (omega (arith, v)))
