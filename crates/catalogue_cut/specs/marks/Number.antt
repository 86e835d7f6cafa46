-- The number by which the definitions speak of a mark. Assumes nothing.
use Rattle.std.specs.Prelude.{List, ℕ, map}
use Rattle.catalogue_cut.specs.declared.marks.Mark.{Mark}
use Rattle.catalogue_cut.specs.declared.marks.Mark.TheVariants.{Kept, Crowded, Faint}

abbrev pub number_of : Mark → ℕ
number_of Kept = 0
number_of Crowded = 1
number_of Faint = 2

abbrev pub numbers_of : List Mark → List ℕ
numbers_of marks = map number_of marks
