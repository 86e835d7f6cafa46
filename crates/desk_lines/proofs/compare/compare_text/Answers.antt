-- The refusal's line, or those of the list that stands at the front of its room.
use Rattle.std.proofs.Common.{◌≡◌, sym, ap, ◌∙◌, List, ℕ, ◌*◌, ◌≤◌, length, take, length-take-le, arith}
use Rattle.std.specs.Prelude.{Result, Ok, replicate}
use Rattle.std.proofs.Math.ListN.{length-take}
use Rattle.std.proofs.lemmas.List.{length-replicate}
use Rattle.refusal.specs.declared.Refusal.{Refusal}
use Rattle.catalogue_compare.specs.Changes.{changes_of}
use Rattle.catalogue_compare.specs.Compare.{compared_of, room_after}
use Rattle.text.specs.RoomLaws.{room-short, room-told}
use Rattle.desk_lines.specs.compare.Lines.{lines_of}
use Rattle.desk_lines.specs.compare.LinesLaws.{text-refused, text-listed, list-fits, list-long, list-front}
use Rattle.desk_lines.proofs.compare.compare_text.Goals as goal

abbrev zeros : List ℕ
zeros = replicate 8192 0

sized : (first second : List ℕ) {r : Result ℕ Refusal} → r ≡ compared_of first second (length zeros) → compared_of first second 8192 ≡ r
sized first second e = sym (e ∙ ap (compared_of first second) (length-replicate {A = ℕ} 8192 0))

-- the list's records stand at the front of its room
module _ (first second after : List ℕ) (n : ℕ) (e : Ok n ≡ compared_of first second (length zeros)) (i : after ≡ room_after first second zeros) where
  fits : 8 * n ≤ 8192
  fits = list-fits first second zeros (length-replicate {A = ℕ} 8192 0) n (sized first second e)

  long : length (changes_of first second) ≡ 8 * n
  long = list-long first second zeros (length-replicate {A = ℕ} 8192 0) n (sized first second e)

  front : take (8 * n) after ≡ changes_of first second
  front = ap (take (8 * n)) i ∙ list-front first second zeros (length-replicate {A = ℕ} 8192 0) n (sized first second e)

  within : 8 * n ≤ length after
  within = omega (arith, length-take (8 * n) after, ap length front, long)

pub returns-then-is_short-clause-value : goal.returns-then-is_short-clause-value
returns-then-is_short-clause-value c = (room-short 32768 _ _ c.if-is_short.true).0

pub returns-then-is_short-clause-room_after : goal.returns-then-is_short-clause-room_after
returns-then-is_short-clause-room_after c = (room-short 32768 _ _ c.if-is_short.true).1

pub overflow_mul-end : goal.overflow_mul-end
overflow_mul-end c = omega (arith, fits c.args.first.now c.args.second.now _ _ c.in-Ok.ensures.value c.in-Ok.ensures.room_after)

pub slice_bounds-list-end : goal.slice_bounds-list-end
slice_bounds-list-end c = within c.args.first.now c.args.second.now _ _ c.in-Ok.ensures.value c.in-Ok.ensures.room_after

pub slice_bounds-lines-end : goal.slice_bounds-lines-end
slice_bounds-lines-end c =
    sym (length-take-le _ _ (within c.args.first.now c.args.second.now _ _ c.in-Ok.ensures.value c.in-Ok.ensures.room_after))

pub returns-in-Err : goal.returns-in-Err
returns-in-Err c =
    let a = c.args in
    let t = text-refused a.first.now a.second.now _ (sized a.first.now a.second.now c.in-Err.ensures.value) in
    let b = room-told 32768 _ _ _ _ _ 29696 c.if-is_short.false (omega (arith, c.refused.ensures.upper_bound)) (omega arith) t c.refused.ensures.wrote in
    record { value = b.0; room_after = b.1.0; upper_bound = b.1.1 }

pub returns-in-Ok : goal.returns-in-Ok
returns-in-Ok c =
    let a = c.args in
    let e = c.in-Ok.ensures.value in
    let i = c.in-Ok.ensures.room_after in
    let f = front a.first.now a.second.now _ _ e i in
    let t = ap (λ (l : List ℕ). lines_of l) f ∙ text-listed a.first.now a.second.now _ (sized a.first.now a.second.now e) in
    let m : c.lines.result ≤ 29696 = omega (arith, c.lines.ensures.upper_bound, ap length f, long a.first.now a.second.now _ _ e i, fits a.first.now a.second.now _ _ e i) in
    let b = room-told 32768 _ _ _ _ _ 29696 c.if-is_short.false m (omega arith) t c.lines.ensures.wrote in
    record { value = b.0; room_after = b.1.0; upper_bound = b.1.1 }
