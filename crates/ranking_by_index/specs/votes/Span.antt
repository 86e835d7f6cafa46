-- The votes that the records of an index in a span give. Assumes nothing.
use Rattle.std.specs.Prelude.{Bool, cond, ◌&&◌, List, ℕ, zero, suc, ◌+◌, ◌/◌, ◌%◌, ◌≤◌, ◌<◌, leb, eqb, length, ℤ}
use Rattle.vectors.specs.Triples.{triples, pair_dot}
use Rattle.lists.specs.Number.{one}
use Rattle.catalogue_index.specs.Raised.{raised}
use Rattle.catalogue_index.specs.records.Format.{high_at, low_at}

-- how often the ends of a pair name star c
unfoldable pub named : ℕ → ℕ → ℕ
named c ends = one (eqb c (ends / 65536)) + one (eqb c (ends % 65536))

-- what a record gives to star c: a vote for each end, if its dot product lies in the span
unfoldable pub given : ℕ → ℕ → ℕ → ℕ → ℕ → ℕ
given lower upper c high ends = cond (leb lower high && leb high upper) (named c ends) 0

-- the sum of what f gives for 0 .. n - 1
unfoldable pub sum_to : ℕ → (ℕ → ℕ) → ℕ
sum_to zero f = 0
sum_to (suc n) f = sum_to n f + f n

-- what all records give
unfoldable pub span_votes : List ℕ → ℕ → ℕ → ℕ → ℕ
span_votes bytes lower upper c = sum_to (length bytes / 12) (λ k. given lower upper c (high_at bytes k) (low_at bytes k))

-- the records name stars below `most`, and their dot products do not fall
pub record Usable (most : ℕ) (bytes : List ℕ) : Type 0 where
  pub first : (k : ℕ) → k < length bytes / 12 → low_at bytes k / 65536 < most
  pub second : (k : ℕ) → k < length bytes / 12 → low_at bytes k % 65536 < most
  pub rising : (j k : ℕ) → j ≤ k → k < length bytes / 12 → high_at bytes j ≤ high_at bytes k

-- ---- the same by the full catalogue

-- the dot product of the stars a and b lies in the span
abbrev pub in_span : List ℤ → ℕ → ℕ → ℕ → ℕ → Bool
in_span stars lower upper a b = leb lower (raised (pair_dot stars a b)) && leb (raised (pair_dot stars a b)) upper

-- what the pair of a and b gives to star c, by a test of pairs
abbrev pub meets : (ℕ → ℕ → Bool) → ℕ → ℕ → ℕ → ℕ
meets w c b a = cond (w a b) (one (eqb c a) + one (eqb c b)) 0

-- what the pairs of star b with each star before it give
unfoldable pub row_votes : List ℤ → ℕ → ℕ → ℕ → ℕ → ℕ
row_votes stars lower upper c b = sum_to b (meets (in_span stars lower upper) c b)

-- what all pairs give
unfoldable pub all_votes : List ℤ → ℕ → ℕ → ℕ → ℕ
all_votes stars lower upper c = sum_to (triples stars) (row_votes stars lower upper c)
