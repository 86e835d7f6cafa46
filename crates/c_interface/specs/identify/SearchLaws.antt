-- Demand 3 in the numbers that a caller of the search is handed. Assumes nothing.
use Rattle.std.specs.Prelude.{List, ℕ, ℤ}
use Rattle.search.specs.declared.Identification.{Identification}
use Rattle.c_numbers.specs.Places.{names_place, refusal_in, words_at}

-- what the numbers say: accepted, or a refusal's number and place; and the star of each direction
abbrev pub identification_in : ℕ → List ℤ → Identification
identification_in stars xs = record { outcome = refusal_in xs; stars = words_at stars xs names_place }

-- ---- they are read as the answer that they were made of
