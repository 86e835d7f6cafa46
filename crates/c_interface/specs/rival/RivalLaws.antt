-- The promise on rivals in the numbers that a caller is handed. Assumes nothing.
use Rattle.std.specs.Prelude.{List, ℕ, eqb, ℤ, nat_abs}
use Rattle.search_rival.specs.declared.Contest.{Contest}
use Rattle.c_numbers.specs.Places.{own_place, names_place, read_at, refusal_in, words_at}

-- what the numbers say: accepted or refused; whether there is a rival; and its star for each direction
abbrev pub contest_in : ℕ → List ℤ → Contest
contest_in stars xs = record { outcome = refusal_in xs; rival = eqb (nat_abs (read_at xs own_place)) 1; stars = words_at stars xs names_place }
