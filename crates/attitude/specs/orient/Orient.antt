-- The attitude of an identification, by the first two of its directions that have a star. Directions and stars are lists in threes, and
-- an assignment has a word for each direction: its star, or the number of stars for none. Assumes nothing.
use Rattle.std.specs.Prelude.{Bool, ◌&&◌, List, ℕ, ◌+◌, ◌/◌, ltb, leb, ℤ, length}
use Rattle.lists.specs.First.{first}
use Rattle.vectors.specs.Triples.{triple_at}
use Rattle.search_theory.specs.Order.{at}
use Rattle.attitude.specs.Attitude.{attitude_of}
use Rattle.std.specs.Prelude.{Result}
use Rattle.refusal.specs.declared.Refusal.{Refusal}
use Rattle.attitude.specs.declared.Matrix.{Matrix}

-- the first direction from a place on that has a star, or the number of directions
unfoldable pub assigned_from : List ℕ → ℕ → ℕ → ℕ → ℕ
assigned_from words stars directions from = first (λ i. leb from i && ltb (at words i) stars) directions

abbrev pub first_assigned : List ℕ → ℕ → ℕ → ℕ
first_assigned words stars directions = assigned_from words stars directions 0

abbrev pub second_assigned : List ℕ → ℕ → ℕ → ℕ
second_assigned words stars directions = assigned_from words stars directions (first_assigned words stars directions + 1)

-- the attitude of the directions i and j and their stars
abbrev pub attitude_by : List ℤ → List ℤ → List ℕ → ℕ → ℕ → Result Matrix Refusal
attitude_by directions stars words i j = attitude_of (triple_at directions i) (triple_at directions j) (triple_at stars (at words i)) (triple_at stars (at words j))

unfoldable pub orientation_of : List ℤ → List ℤ → List ℕ → Result Matrix Refusal
orientation_of directions stars words =
    attitude_by directions stars words (first_assigned words (length stars / 3) (length directions / 3))
    (second_assigned words (length stars / 3) (length directions / 3))
