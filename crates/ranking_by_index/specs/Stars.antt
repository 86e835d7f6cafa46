-- The same of decoded stars, as the code goes on behind the catalogue's own test. Assumes nothing.
use Rattle.std.specs.Prelude.{List, ◌++◌, ℕ, ◌*◌, ℤ, length, drop}
use Rattle.refusal.specs.Table.{first_applying, answered}
use Rattle.vectors.specs.Triples.{triples}
use Rattle.ranking.specs.Ranking.{ranking_of}
use Rattle.ranking_by_index.specs.Call.{rows_behind}
use Rattle.std.specs.Prelude.{Result}
use Rattle.refusal.specs.declared.Refusal.{Refusal}

unfoldable pub outcome_from : List ℤ → List ℤ → List ℕ → ℤ → ℕ → ℕ → Result Unit Refusal
outcome_from directions stars index floor tolerance words = first_applying (rows_behind directions stars (triples stars) index floor tolerance words)

unfoldable pub room_from : List ℤ → List ℤ → List ℕ → ℤ → ℕ → List ℕ → List ℕ
room_from directions stars index floor tolerance room =
    answered (λ _. room) (ranking_of directions stars tolerance ++ drop (triples directions * triples stars) room)
    (outcome_from directions stars index floor tolerance (length room))
