-- The three entries are stored one behind the other.
use Rattle.std.proofs.Common.{ℕ, ◌+◌, List, FitsSigned, w64, of_z, ap, ◌∙◌, arith}
use Rattle.std.proofs.lemmas.List.Edits.{sets}
use Rattle.std.proofs.lemmas.Int.{to_z-of_z}
use Rattle.words.specs.Bytes.{bytes_of}
use Rattle.chain_burst.specs.records.Laws.{row-stored}
use Rattle.chain_burst.proofs.records.put_row.Goals as goal

pub returns : goal.returns
returns c =
    let a = c.args in
    let r = a.row in
    let x : FitsSigned w64 r.x = record { sfits = omega arith } in
    let y : FitsSigned w64 r.y = record { sfits = omega arith } in
    let z : FitsSigned w64 r.z = record { sfits = omega arith } in
    let f = c.cast_unsigned.ensures ∙ ap (of_z w64) (to_z-of_z w64 r.x x) in
    let g = c.cast_unsigned-2.ensures ∙ ap (of_z w64) (to_z-of_z w64 r.y y) in
    let h = c.cast_unsigned-3.ensures ∙ ap (of_z w64) (to_z-of_z w64 r.z z) in
    c.put_u64-3.ensures
    ∙ ap (λ (l : List ℕ). sets l (a.at + 16) (bytes_of 8 c.cast_unsigned-3.result))
    (c.put_u64-2.ensures ∙ ap (λ (l : List ℕ). sets l (a.at + 8) (bytes_of 8 c.cast_unsigned-2.result)) c.put_u64.ensures)
    ∙ (λ i. sets (sets (sets a.room.now a.at (bytes_of 8 (f i))) (a.at + 8) (bytes_of 8 (g i))) (a.at + 16) (bytes_of 8 (h i)))
    ∙ row-stored a.room.now a.at r.x r.y r.z
