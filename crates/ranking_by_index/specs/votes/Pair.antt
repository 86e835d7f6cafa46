-- The votes of pairs of directions by the plain rule, which of the pairs the index votes, and what the part that reads the index alone promises.
-- Assumes nothing.
use Rattle.std.specs.Prelude.{Bool, cond, not, ◌&&◌, ◌≡◌, List, ℕ, ◌+◌, ◌-◌, ltb, leb, ℤ, pos, get_or}
use Rattle.vectors.specs.Triples.{triples, Listed, pair_dot}
use Rattle.vectors.specs.Agree.{agreeing}
use Rattle.lists.specs.Number.{number, pairs}
use Rattle.ranking_votes.specs.Votes.{other}
use Rattle.ranking_votes.specs.Progress.{Setting, setting, vote_by}
use Rattle.catalogue_index.specs.Raised.{raised}
use Rattle.catalogue_index.specs.Index.{bytes_from}

-- what a pair of directions with the dot product q gives to star c: how many other stars b there are whose pair with c agrees with it
unfoldable pub pair_votes : List ℤ → ℤ → ℕ → ℕ → ℕ
pair_votes stars q tolerance c = number (triples stars) (λ b. other b c && agreeing q (pair_dot stars c b) tolerance)

-- and 0 where there is no star c
unfoldable pub plain_votes : List ℤ → ℤ → ℕ → ℕ → ℕ
plain_votes stars q tolerance c = cond (ltb c (triples stars)) (pair_votes stars q tolerance c) 0

-- a pair of directions with the dot product q is the index's: q less the tolerance does not lie below the floor
abbrev pub by_index : ℕ → ℕ → ℤ → Bool
by_index floor tolerance q = leb floor (raised q - tolerance)

-- it is the full catalogue's
abbrev pub by_catalogue : ℕ → ℕ → ℤ → Bool
by_catalogue floor tolerance q = not (by_index floor tolerance q)

-- what direction j, whose product with direction i is q, adds to star c for direction i, if q passes a test
unfoldable pub adds : (ℤ → Bool) → ℤ → List ℤ → ℕ → ℕ → ℕ → ℕ → ℕ
adds mine q stars tolerance i c j = cond (other j i) (cond (mine q) (plain_votes stars q tolerance c) 0) 0

-- the votes (j, b) of star c whose directions j have products that pass the test, and 0 where there is no star c
unfoldable pub votes_by : (ℤ → Bool) → Setting → ℕ → ℕ
votes_by mine g c =
    cond (ltb c (triples g.stars)) (pairs g.count (triples g.stars) (λ j b. mine (get_or g.products j (pos 0)) && vote_by g c j b)) 0

-- the index is that of some stars for the floor
pub record IndexFor (index : List ℕ) (floor : ℕ) : Type 0 where
  pub stars : List ℤ
  pub listed : Listed 512 stars
  pub right : index ≡ bytes_from stars floor

-- whichever stars the index is right for: what direction j adds was added, if its pair with direction i is the index's
pub record AddedByIndex (index : List ℕ) (q : ℤ) (tolerance floor i j : ℕ) (before after : List ℕ) : Type 0 where
  pub added :
      (stars : List ℤ)
      → Listed 512 stars → index ≡ bytes_from stars floor
      → (c : ℕ) → get_or after c 0 ≡ get_or before c 0 + adds (by_index floor tolerance) q stars tolerance i c j

-- whichever stars the index is right for: the votes of exactly the pairs of directions that are the index's were added
pub record VotesOfIndex (index : List ℕ) (products : List ℤ) (count i tolerance floor : ℕ) (before after : List ℕ) : Type 0 where
  pub added :
      (stars : List ℤ)
      → Listed 512 stars → index ≡ bytes_from stars floor
      → (c : ℕ) → get_or after c 0 ≡ get_or before c 0 + votes_by (by_index floor tolerance) (setting products count i stars tolerance) c
