-- Which star pairs can agree with a direction pair at all. Products fall into places, each 2^50 wide. Assumes nothing.
use Rattle.std.specs.Prelude.{◌≡◌, true, List, ℕ, ◌/◌, ◌<◌, ℤ, pos, nat_abs, ◌+ℤ◌, length, get_or}
use Rattle.numbers.specs.Within.{Within}
use Rattle.vectors.specs.Agree.{agreeing}

-- a product moved up by the greatest size that it can have, so that it has no sign
abbrev pub lifted_of : ℤ → ℕ
lifted_of p = nat_abs (p +ℤ pos 3000000000000000000)

abbrev pub place_of : ℤ → ℕ
place_of p = lifted_of p / 1125899906842624

-- the table marks the place of each product that agrees with q
pub record Marks (near : List ℕ) (tolerance : ℕ) (q : ℤ) : Type 0 where
  pub marked : (p : ℤ) → Within 3000000000000000000 p → agreeing q p tolerance ≡ true → get_or near (place_of p) 0 ≡ 1

-- and so for each of the products
pub record AllMarked (near : List ℕ) (products : List ℤ) (tolerance : ℕ) : Type 0 where
  pub each : (k : ℕ) → k < length products → Marks near tolerance (get_or products k (pos 0))
