-- The first assignment that passes, computed: by recursion on the directions left, and on the places left of a row. Assumes nothing.
use Rattle.std.specs.Prelude.{Bool, true, false, ◌&&◌, List, [], ◌∷◌, ◌++◌, ℕ, zero, suc, leb}
use Rattle.search_theory.specs.Problem.{Problem, assigned}

pub data Answer : Type 0 where
  nothing : Answer
  fit : List ℕ → Answer

abbrev pub is_fit : Answer → Bool
is_fit nothing = false
is_fit (fit r) = true

abbrev pub words : Answer → List ℕ
words nothing = []
words (fit r) = r

abbrev pub or_else : Answer → Answer → Answer
or_else nothing b = b
or_else (fit r) b = fit r

abbrev pub when : Bool → Answer → Answer
when true a = a
when false a = nothing

-- the stars of i's row from the place k on, n of them, and then none; `go` places the directions that are left
unfoldable pub row : Problem → (List ℕ → Answer) → ℕ → List ℕ → ℕ → ℕ → Answer
row p go i c k zero = go (c ++ (p.stars ∷ []))
row p go i c k (suc n) = or_else (when (p.ok i c (p.row i k)) (go (c ++ (p.row i k ∷ [])))) (row p go i c (suc k) n)

-- the first i words are c, and d directions are left
unfoldable pub run : Problem → ℕ → ℕ → List ℕ → Answer
run p zero i c = when (leb p.needed (assigned p.stars c i) && p.last c) (fit c)
run p (suc d) i c = row p (run p d (suc i)) i c 0 p.stars

unfoldable pub first_fit : Problem → Answer
first_fit p = run p p.dirs 0 []
