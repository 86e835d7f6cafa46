-- The votes of the stars for one direction. Directions and stars are lists in threes. Assumes nothing.
use Rattle.std.specs.Prelude.{Bool, cond, not, ◌&&◌, List, [], ◌∷◌, ◌++◌, ℕ, zero, suc, ltb, eqb, ℤ}
use Rattle.vectors.specs.Triples.{triples, pair_dot}
use Rattle.vectors.specs.Agree.{agreeing}
use Rattle.lists.specs.Number.{pairs}

-- one number is another than the other
abbrev pub other : ℕ → ℕ → Bool
other k n = not (eqb k n)

-- (j, b) is a vote of star a for direction i: another direction and another star, whose pairs with i and a agree
abbrev pub is_vote : List ℤ → List ℤ → ℕ → ℕ → ℕ → ℕ → ℕ → Bool
is_vote directions stars tolerance i a j b =
    other j i && (other b a && agreeing (pair_dot directions i j) (pair_dot stars a b) tolerance)

-- the votes of star a for direction i: how many such (j, b) there are
unfoldable pub votes_of : List ℤ → List ℤ → ℕ → ℕ → ℕ → ℕ
votes_of directions stars tolerance i a = pairs (triples directions) (triples stars) (is_vote directions stars tolerance i a)

-- what f gives for 0 .. n - 1
unfoldable pub firsts : ℕ → (ℕ → ℕ) → List ℕ
firsts zero f = []
firsts (suc n) f = firsts n f ++ (f n ∷ [])

-- the 512 counters of a direction: the votes of each star, and 0 where there is no star
unfoldable pub counters_of : List ℤ → List ℤ → ℕ → ℕ → List ℕ
counters_of directions stars tolerance i =
    firsts 512 (λ a. cond (ltb a (triples stars)) (votes_of directions stars tolerance i a) 0)
