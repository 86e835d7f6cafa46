-- Where an answer's numbers stand among the 64, and what a caller reads there. Assumes nothing.
use Rattle.std.specs.Prelude.{cond, List, map, ℕ, ◌+◌, eqb, ℤ, pos, negsuc, nat_abs, get_or, take, drop}
use Rattle.refusal.specs.Table.{refusal_of}
use Rattle.attitude.specs.declared.Matrix.{Matrix}
use Rattle.c_numbers.specs.Numbers.{vector_at}
use Rattle.std.specs.Prelude.{Result, Ok}
use Rattle.refusal.specs.declared.Refusal.{Refusal}

-- the number and the place of a refusal
abbrev pub number_place : ℕ
number_place = 0

abbrev pub place_place : ℕ
place_place = 1

-- the answer's own numbers begin here: a count, a vector, a matrix, or the four counts of a frame's list
abbrev pub own_place : ℕ
own_place = 2

-- the stars of a search's directions, behind their count, and of a rival's, behind whether there is one
abbrev pub names_place : ℕ
names_place = 3

-- the stars of a frame's list, three numbers each
abbrev pub stars_place : ℕ
stars_place = 6

-- behind the list, the chain's own: the star of each listed direction, and the matrix
abbrev pub chain_names_place : ℕ
chain_names_place = 30

abbrev pub chain_matrix_place : ℕ
chain_matrix_place = 38

-- ---- reading

abbrev pub read_at : List ℤ → ℕ → ℤ
read_at xs k = get_or xs k (pos 0)

-- accepted where the number is 0
abbrev pub refusal_in : List ℤ → Result Unit Refusal
refusal_in xs = cond (eqb (nat_abs (read_at xs number_place)) 0) (Ok tt) (refusal_of (nat_abs (read_at xs number_place)) (nat_abs (read_at xs place_place)))

-- number at + 3 r + c is entry r, c of the matrix
abbrev pub matrix_at : List ℤ → ℕ → Matrix
matrix_at xs at = record { row0 = vector_at xs at; row1 = vector_at xs (at + 3); row2 = vector_at xs (at + 6) }

-- a record number is that star's word, -1 is none's
abbrev pub word_in : ℕ → ℤ → ℕ
word_in stars (pos n) = n
word_in stars (negsuc n) = stars

-- number at + i is the star of direction i
abbrev pub words_at : ℕ → List ℤ → ℕ → List ℕ
words_at stars xs at = map (word_in stars) (take 8 (drop at xs))
