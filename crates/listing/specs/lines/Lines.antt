-- The lines of document 01's listing, each with its line end. Assumes nothing.
use Rattle.std.specs.Prelude.{Bool, cond, List, [], ◌++◌, ℕ, zero, suc, min, ltb, get_or}
use Rattle.vectors.specs.declared.Vec3.{Vec3}
use Rattle.frame_centroid.specs.declared.Centroid.{Centroid}
use Rattle.frame_list.specs.declared.Report.{Report}
use Rattle.frame_list.specs.Stars.{nought}
use Rattle.catalogue.specs.Format.{records_in}
use Rattle.catalogue.specs.Stars.{identity_for}
use Rattle.attitude.specs.declared.Matrix.{Matrix}
use Rattle.text.specs.Ascii.{ascii}
use Rattle.text.specs.Decimal.{decimal, signed_decimal, labelled}

unfoldable pub counts_line : Report → List ℕ
counts_line r = labelled "measured " r.measured ++ labelled " edge " r.edge ++ labelled " lone " r.lone ++ ascii "\n"

-- the star that a word of an assignment names: its identity, and "-" for a word that is no record's number
unfoldable pub name_of : List ℕ → ℕ → List ℕ
name_of catalogue word = cond (ltb word (records_in catalogue)) (decimal (identity_for catalogue word)) (ascii "-")

-- the same where names are shown, and "-" where they are not
abbrev pub shown : Bool → List ℕ → ℕ → List ℕ
shown names catalogue word = cond names (name_of catalogue word) (ascii "-")

-- of each star of an assignment
abbrev pub shown_in : Bool → List ℕ → List ℕ → ℕ → List ℕ
shown_in names catalogue words k = shown names catalogue (get_or words k 0)

-- listed star k: its number, position and brightness
unfoldable pub star_place : ℕ → Centroid → List ℕ
star_place k star = decimal k ++ labelled " " star.x ++ labelled " " star.y ++ labelled " " star.brightness ++ ascii " "

-- and behind them its name
unfoldable pub star_line : ℕ → Centroid → List ℕ → List ℕ
star_line k star name = star_place k star ++ name ++ ascii "\n"

-- the first n listed stars, each with its name
unfoldable pub star_lines : List Centroid → (ℕ → List ℕ) → ℕ → List ℕ
star_lines stars name zero = []
star_lines stars name (suc n) = star_lines stars name n ++ star_line n (get_or stars n nought) (name n)

-- the counts, then a line for each listed star, of which there are never more than 8
unfoldable pub report_lines : Report → (ℕ → List ℕ) → List ℕ
report_lines r name = counts_line r ++ star_lines r.stars name (min 8 r.count)

unfoldable pub row_line : Vec3 → List ℕ
row_line v = signed_decimal v.x ++ ascii " " ++ signed_decimal v.y ++ ascii " " ++ signed_decimal v.z ++ ascii "\n"

unfoldable pub matrix_lines : Matrix → List ℕ
matrix_lines m = row_line m.row0 ++ row_line m.row1 ++ row_line m.row2
