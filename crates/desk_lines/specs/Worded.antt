-- Lines of words, each with a number behind it. Assumes nothing.
use Rattle.std.specs.Prelude.{List, ◌++◌, ℕ}
use Rattle.text.specs.Ascii.{ascii}
use Rattle.text.specs.Decimal.{decimal}

-- a word and a number
abbrev pub numbered : List ℕ → ℕ → List ℕ
numbered word n = word ++ decimal n ++ ascii "\n"

-- a word and a number, and a second word and its number
abbrev pub numbered_twice : List ℕ → ℕ → List ℕ → ℕ → List ℕ
numbered_twice word a between b = word ++ decimal a ++ (between ++ decimal b) ++ ascii "\n"
