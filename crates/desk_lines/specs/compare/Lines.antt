-- Request T-10's tool: a line for each star that changed between two catalogues. Assumes nothing.
use Rattle.std.specs.Prelude.{cond, List, [], ◌++◌, ℕ, zero, suc, ◌/◌, eqb, length}
use Rattle.catalogue_compare.specs.Changes.{changes_of}
use Rattle.catalogue_compare.specs.Read.{identity_at, kind_at}
use Rattle.catalogue_compare.specs.Compare.{compared_of}
use Rattle.text.specs.Ascii.{ascii}
use Rattle.text.specs.Decimal.{labelled}
use Rattle.text.specs.Refused.{refusal_line}
use Rattle.std.specs.Prelude.{Result, Ok, Err}
use Rattle.refusal.specs.declared.Refusal.{Refusal}

-- what the list says of a star, in a word, and its identity
unfoldable pub change_label : ℕ → ℕ → List ℕ
change_label identity kind = cond (eqb kind 1) (labelled "removed " identity) (cond (eqb kind 2) (labelled "added " identity) (labelled "changed " identity))

abbrev pub change_line : ℕ → ℕ → List ℕ
change_line identity kind = change_label identity kind ++ ascii "\n"

-- the lines of the first n records of a list
unfoldable pub lines_to : List ℕ → ℕ → List ℕ
lines_to list zero = []
lines_to list (suc n) = lines_to list n ++ change_line (identity_at list n) (kind_at list n)

-- those of all its records, of eight bytes each
abbrev pub lines_of : List ℕ → List ℕ
lines_of list = lines_to list (length list / 8)

-- the refusal's line, or the lines of the list: two catalogues have at most 1,024 records, for which 8,192 bytes are enough
abbrev pub changed_text : List ℕ → Result ℕ Refusal → List ℕ
changed_text list (Err r) = refusal_line r
changed_text list (Ok n) = lines_of list

unfoldable pub compare_text : List ℕ → List ℕ → List ℕ
compare_text first second = changed_text (changes_of first second) (compared_of first second 8192)
