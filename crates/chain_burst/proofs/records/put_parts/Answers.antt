-- The five parts are stored one behind the other.
use Rattle.std.proofs.Common.{ℕ, ◌+◌, List, ap, ◌∙◌}
use Rattle.std.proofs.lemmas.List.Edits.{sets}
use Rattle.words.specs.Bytes.{bytes_of}
use Rattle.chain_burst.specs.records.Record.{signed_bytes}
use Rattle.chain_burst.specs.records.Laws.{row_of, parts-stored}
use Rattle.chain_burst.proofs.records.put_parts.Goals as goal

pub returns : goal.returns
returns c =
    let a = c.args in
    let m = a.matrix in
    c.put_row-3.ensures
    ∙ ap (λ (l : List ℕ). sets l (a.at + 56) (signed_bytes (row_of m.row2)))
    (c.put_row-2.ensures
    ∙ ap (λ (l : List ℕ). sets l (a.at + 32) (signed_bytes (row_of m.row1)))
    (c.put_row.ensures
    ∙ ap (λ (l : List ℕ). sets l (a.at + 8) (signed_bytes (row_of m.row0)))
    (c.put_u32-2.ensures ∙ ap (λ (l : List ℕ). sets l (a.at + 4) (bytes_of 4 a.place)) c.put_u32.ensures)))
    ∙ parts-stored a.room.now a.at a.number a.place m
