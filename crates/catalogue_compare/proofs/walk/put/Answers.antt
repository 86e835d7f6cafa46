-- A record in two parts. Assumes nothing.
use Rattle.std.specs.Prelude.{◌≡◌, ◌+◌, ◌*◌}
use Rattle.std.proofs.Common.{◌∙◌, ap, sym}
use Rattle.std.proofs.lemmas.List.Edits.{sets}
use Rattle.words.specs.Bytes.{bytes_of}
use Rattle.catalogue_compare.specs.Taken.{kind_number, step_from}
use Rattle.catalogue_compare.specs.Written.{bytes_one, parts-written}
use Rattle.catalogue_compare.proofs.Merge.{tag-number, tag-some, number-most}
use Rattle.catalogue_compare.proofs.walk.put.Goals as goal

pub returns-clause-room_after : goal.returns-clause-room_after
returns-clause-room_after c =
    let x = c.args in
    let k = ap kind_number c.in-Some.is in
    let n = tag-number c.in-Some.change ∙ sym k in
    let d : kind_number x.s.change ≡ 0 → ⊥ = λ e. tag-some c.in-Some.change (sym k ∙ e) in
    c.put_u32-2.ensures
    ∙ (λ j. sets (c.put_u32.ensures j) (8 * x.at + 4) (bytes_of 4 (n j)))
    ∙ parts-written x.room.now (8 * x.at) x.s.identity (kind_number x.s.change) (number-most x.s.change)
    ∙ sym (ap (sets x.room.now (8 * x.at)) (bytes_one (step_from x.s) d))
