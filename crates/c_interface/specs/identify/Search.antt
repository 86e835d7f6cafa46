-- The numbers of a search: how many directions there are, and the star of each. Assumes nothing.
use Rattle.std.specs.Prelude.{List, ◌∷◌, ℕ, ℤ}
use Rattle.search.specs.declared.Identification.{Identification}
use Rattle.numbers.specs.TwosComplement.{signed_of}
use Rattle.c_numbers.specs.Numbers.{accepted_numbers, outcome_numbers}
use Rattle.c_numbers.specs.Stars.{names_numbers}

abbrev pub named_numbers : ℕ → ℕ → List ℕ → List ℤ
named_numbers directions stars words = signed_of directions ∷ names_numbers words directions stars

abbrev pub search_numbers : ℕ → ℕ → Identification → List ℤ
search_numbers directions stars r = outcome_numbers r.outcome (accepted_numbers (named_numbers directions stars r.stars))
