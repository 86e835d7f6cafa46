-- The numbers of a search for rivals: 1 and the star of each direction, as a search has them; or 0 and no star where ours is alone. Assumes nothing.
use Rattle.std.specs.Prelude.{Bool, cond, List, ◌∷◌, ℕ, ℤ}
use Rattle.search_rival.specs.declared.Contest.{Contest}
use Rattle.numbers.specs.TwosComplement.{signed_of}
use Rattle.c_numbers.specs.Numbers.{accepted_numbers, outcome_numbers}
use Rattle.c_numbers.specs.Stars.{names_numbers}

abbrev pub contested_numbers : ℕ → ℕ → Bool → List ℕ → List ℤ
contested_numbers directions stars rival words = signed_of (cond rival 1 0) ∷ names_numbers words (cond rival directions 0) stars

abbrev pub rival_numbers : ℕ → ℕ → Contest → List ℤ
rival_numbers directions stars r = outcome_numbers r.outcome (accepted_numbers (contested_numbers directions stars r.rival r.stars))
