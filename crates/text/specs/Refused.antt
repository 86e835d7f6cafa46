-- The line of a refusal. Assumes nothing.
use Rattle.std.specs.Prelude.{List, ◌++◌, ℕ}
use Rattle.refusal.specs.declared.Refusal.{Refusal}
use Rattle.text.specs.Ascii.{ascii}
use Rattle.text.specs.Decimal.{labelled}

-- its number and its place
unfoldable pub refusal_line : Refusal → List ℕ
refusal_line r = labelled "refused " r.number ++ labelled " " r.place ++ ascii "\n"
