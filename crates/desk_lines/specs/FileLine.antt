-- The line of a file that the desk makes: request T-05's tool says how many records the index has, T-13's how many are kept. Assumes nothing.
use Rattle.std.specs.Prelude.{List, ◌++◌, ℕ}
use Rattle.text.specs.Ascii.{ascii}
use Rattle.text.specs.Decimal.{labelled}
use Rattle.text.specs.Refused.{refusal_line}
use Rattle.desk_lines.specs.declared.file_line.Said.{Said}
use Rattle.desk_lines.specs.declared.file_line.Said.TheVariants.{Refused, Records, Kept}

unfoldable pub records_line : ℕ → List ℕ
records_line n = labelled "records " n ++ ascii "\n"

-- so many of so many
unfoldable pub kept_line : ℕ → ℕ → List ℕ
kept_line kept records = labelled "kept " kept ++ labelled " of " records ++ ascii "\n"

abbrev pub said_line : Said → List ℕ
said_line (Refused r) = refusal_line r
said_line (Records n) = records_line n
said_line (Kept n records) = kept_line n records
