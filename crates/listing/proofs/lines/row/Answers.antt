use Rattle.std.proofs.Common.{List, ℕ, ℤ, w64, to_z, of_z, rules}
use mir.Val.{SFits}
use mir.ValLaws.{to_z-of_z}
use Rattle.text.specs.Decimal.{signed_decimal}
use Rattle.text.specs.Written.{Wrote}
use Rattle.text.specs.WrittenLaws.{wrote_then}
use Rattle.listing.specs.lines.Lines.{row_line}
use Rattle.listing.proofs.lines.row.Goals as goal

-- what was put is the field's own number
held : {a b : List ℕ} {at to : ℕ} {z : ℤ} → SFits w64 z → Wrote a at (signed_decimal (to_z w64 (of_z w64 z))) b to → Wrote a at (signed_decimal z) b to
held {z = z} h p = rw (to_z-of_z w64 z h) at p

pub returns-clause-wrote : goal.returns-clause-wrote
unfolding row_line
returns-clause-wrote c =
    let x : SFits w64 c.args.row.x = search rules in
    let y : SFits w64 c.args.row.y = search rules in
    let z : SFits w64 c.args.row.z = search rules in
    wrote_then (wrote_then (wrote_then (wrote_then (wrote_then (held x c.signed-x.ensures.wrote) c.word-before_y.ensures)
    (held y c.signed-y.ensures.wrote)) c.word-before_z.ensures) (held z c.signed-z.ensures.wrote)) c.word.ensures
