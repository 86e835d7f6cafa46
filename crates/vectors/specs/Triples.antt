-- A list of numbers read in threes: directions and decoded stars have this form. Assumes nothing.
use Rattle.std.specs.Prelude.{List, ℕ, ◌+◌, ◌*◌, ◌/◌, ◌≤◌, ℤ, pos, length, get_or}
use Rattle.numbers.specs.Within.{Within}
use Rattle.vectors.specs.declared.Vec3.{Vec3}
use Rattle.vectors.specs.Vectors.{dot_of}

-- each number of the list is within b of 0; what would stand beyond its end is 0
pub record AllWithin (b : ℕ) (list : List ℤ) : Type 0 where
  pub at : (k : ℕ) → Within b (get_or list k (pos 0))

-- how many triples a list has
abbrev pub triples : List ℤ → ℕ
triples list = length list / 3

-- at most so many triples, each number within ±10^9
pub record Listed (most : ℕ) (list : List ℤ) : Type 0 where
  pub few : triples list ≤ most
  pub near : AllWithin 1000000000 list

-- the i'th triple
unfoldable pub triple_at : List ℤ → ℕ → Vec3
triple_at list i = record { x = get_or list (3 * i) (pos 0); y = get_or list (3 * i + 1) (pos 0); z = get_or list (3 * i + 2) (pos 0) }

-- the dot product of the i'th and the j'th
unfoldable pub pair_dot : List ℤ → ℕ → ℕ → ℤ
pair_dot list i j = dot_of (triple_at list i) (triple_at list j)
