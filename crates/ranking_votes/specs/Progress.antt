-- What the counters hold while each star is counted against those before it. Assumes nothing.
use Rattle.std.specs.Prelude.{Bool, cond, ◌&&◌, List, ℕ, ltb, ℤ, pos, get_or}
use Rattle.vectors.specs.Triples.{pair_dot}
use Rattle.vectors.specs.Agree.{agreeing}
use Rattle.lists.specs.Number.{number, pairs}
use Rattle.ranking_votes.specs.Votes.{other}

-- direction j is another than i, and the product q of the two agrees with p
abbrev pub agrees_by : ℕ → ℤ → ℤ → ℕ → ℕ → Bool
agrees_by i q p tolerance j = other j i && agreeing q p tolerance

abbrev pub agrees_with : List ℤ → ℕ → ℤ → ℕ → ℕ → Bool
agrees_with products i p tolerance j = agrees_by i (get_or products j (pos 0)) p tolerance j

-- what the stars are counted by: the products of direction i with the first directions, the stars and the tolerance
pub record Setting : Type 0 where
  pub products : List ℤ
  pub count : ℕ
  pub i : ℕ
  pub stars : List ℤ
  pub tolerance : ℕ

abbrev pub setting : List ℤ → ℕ → ℕ → List ℤ → ℕ → Setting
setting p n k s t = record { products = p; count = n; i = k; stars = s; tolerance = t }

module _ (g : Setting) where
  -- the vote (j, b) for star a
  abbrev pub vote_by : ℕ → ℕ → ℕ → Bool
  vote_by a j b = other j g.i && (other b a && agreeing (get_or g.products j (pos 0)) (pair_dot g.stars a b) g.tolerance)

  -- the votes of star a from its pairs with the first n stars
  unfoldable pub from : ℕ → ℕ → ℕ
  from n a = pairs g.count n (vote_by a)

  -- the votes that the pair of the stars a and b gives
  unfoldable pub between : ℕ → ℕ → ℕ
  between a b = number g.count (agrees_with g.products g.i (pair_dot g.stars a b) g.tolerance)

  -- the counter of star k once the first n stars are counted against each other
  unfoldable pub so_far : ℕ → ℕ → ℕ
  so_far n k = cond (ltb k n) (from n k) 0
