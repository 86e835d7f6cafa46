-- The step from a cut of both catalogues: it takes the first_applying identity from there on, tells of it what the list does, and leaves both cut behind it.
-- Assumes nothing.
use Rattle.std.specs.Prelude.{◌≡◌, List, ℕ, suc, ◌+◌, ◌≤◌, ◌<◌}
use Rattle.std.proofs.Common.{arith}
use borrow.Author.Tests.{lt-ltb, le-ltb}
use Rattle.catalogue_compare.specs.Changes.{both_kind, kind_of}
use Rattle.catalogue_compare.specs.Step.{Step, next_of, step_of}
use Rattle.catalogue_compare.specs.Cut.{Cut}

-- ---- by which identity is the lower

module _ (first second : List ℕ) (i j : ℕ) where
  pub step-first : next_of first i < next_of second j → step_of first second i j ≡ record { identity = next_of first i; kind = 1; first = i + 1; second = j }
  unfolding step_of
  step-first h = rw (lt-ltb _ _ h)

  pub step-second : next_of second j < next_of first i → step_of first second i j ≡ record { identity = next_of second j; kind = 2; first = i; second = j + 1 }
  unfolding step_of
  step-second h = rw (le-ltb (next_of first i) (next_of second j) (omega arith), lt-ltb _ _ h)

  pub step_both : next_of first i ≡ next_of second j
      → step_of first second i j ≡ record { identity = next_of first i; kind = both_kind first i second j; first = i + 1; second = j + 1 }
  unfolding step_of
  step_both e = rw (le-ltb (next_of first i) (next_of second j) (omega arith), le-ltb (next_of second j) (next_of first i) (omega arith))

-- ---- the step

-- what a step s from there on has done
pub record Stepped (first second : List ℕ) (i j b : ℕ) (s : Step) : Type 0 where
  pub reached : b ≤ s.identity
  pub narrow : s.identity < 4294967296
  pub skipped : (x : ℕ) → b ≤ x → x < s.identity → kind_of first second x ≡ 0
  pub told : s.kind ≡ kind_of first second s.identity
  pub cut-first : Cut first s.first (suc s.identity)
  pub cut-second : Cut second s.second (suc s.identity)
  pub further : i + j < s.first + s.second
