-- A small ranking, computed from the definitions: the directions are the stars themselves, two axes and a third between them. Assumes nothing.
use Rattle.std.specs.Prelude.{◌≡◌, refl, List, [], ◌∷◌, ℤ, pos}
use Rattle.vectors.specs.Triples.{triple_at, pair_dot}
use Rattle.vectors.specs.Agree.{agreeing}
use Rattle.lists.specs.Order.{put, ordered}
use Rattle.lists.specs.Number.{number, pairs}
use Rattle.ranking_votes.specs.Votes.{votes_of}
use Rattle.ranking.specs.Ranking.{row_of, rows_of, ranking_of}

abbrev pub three : List ℤ
three =
    pos 1000000000 ∷ pos 0 ∷ pos 0
    ∷ pos 0 ∷ pos 1000000000 ∷ pos 0
    ∷ pos 600000000 ∷ pos 800000000 ∷ pos 0
    ∷ []

-- each star has two votes for its own direction and one for another's: it leads its own row, and the others follow by number
pub three-ranked : ranking_of three three 0 ≡ 0 ∷ 1 ∷ 2 ∷ 1 ∷ 0 ∷ 2 ∷ 2 ∷ 0 ∷ 1 ∷ []
unfolding ranking_of rows_of row_of ordered put votes_of pairs number agreeing pair_dot triple_at
three-ranked = refl
