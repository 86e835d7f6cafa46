-- The rule of a direction list: three numbers for each of no more than 8 directions, none larger than 10^9 in size. Assumes nothing.
use Rattle.std.specs.Prelude.{Bool, true, ◌&&◌, List, [], ◌∷◌, ℕ, ◌%◌, leb, eqb, ℤ, nat_abs, length}

-- how far from 0 a component may lie
abbrev pub largest : ℕ
largest = 1000000000

abbrev pub in_threes : List ℤ → Bool
in_threes v = eqb (length v % 3) 0

-- 8 directions have 24 numbers
abbrev pub at_most_eight : List ℤ → Bool
at_most_eight v = leb (length v) 24

-- each number is within b of 0
unfoldable pub all_within : ℕ → List ℤ → Bool
all_within b [] = true
all_within b (x ∷ xs) = leb (nat_abs x) b && all_within b xs

unfoldable pub list_ok : List ℤ → Bool
list_ok v = in_threes v && at_most_eight v && all_within largest v
