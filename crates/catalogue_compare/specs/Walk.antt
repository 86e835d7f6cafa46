-- The walk over two catalogues: behind each step stands the list of all identities that are passed, and at the end all of it. Assumes nothing.
use Rattle.std.specs.Prelude.{Bool, true, false, ◌≡◌, refl, List, [], ◌∷◌, ℕ, ◌+◌, ◌≤◌, eqb, length}
use Rattle.std.proofs.Math.Bool.{not}
use Rattle.std.proofs.Math.Path.{sym, ap}
use Rattle.std.proofs.Common.{arith, eq-eqb, ne_eqb}
use Rattle.lists.specs.Order.{pick, ordered}
use Rattle.catalogue_compare.specs.Changes.{listed_below}
use Rattle.catalogue_compare.specs.Step.{Step}
use Rattle.catalogue_compare.specs.Cut.{Cut, cut-start}

-- ---- one step

-- what a step adds to the list: its identity, unless nothing is said of it
abbrev pub told : Step → List ℕ
told s = pick (not (eqb s.kind 0)) (s.identity ∷ []) []

pub told-most : (s : Step) → length (told s) ≤ 1
told-most s = by (not (eqb s.kind 0))
  where
    by : (t : Bool) → length (pick t (s.identity ∷ []) []) ≤ 1
    by true = omega arith
    by false = omega arith

pub told_none : (s : Step) → s.kind ≡ 0 → told s ≡ []
told_none s e = rw (eq-eqb s.kind 0 e)

pub told-one : (s : Step) → (s.kind ≡ 0 → ⊥) → told s ≡ s.identity ∷ []
told-one s d = rw (ne_eqb s.kind 0 d)

-- where the walk stands: at an identity b at which both catalogues are cut
pub record Walked (first second : List ℕ) (i j : ℕ) : Type 0 where
  pub b : ℕ
  pub most : b ≤ 4294967296
  pub cut-first : Cut first i b
  pub cut-second : Cut second j b

-- the list so far
abbrev pub so_far : {first second : List ℕ} {i j : ℕ} → Walked first second i j → List ℕ
so_far {first} {second} w = listed_below first second w.b

pub walk_start : (first second : List ℕ) → Walked first second 0 0
walk_start first second = record { b = 0; most = omega arith; cut-first = cut-start first; cut-second = cut-start second }

pub so-far-none : (first second : List ℕ) → so_far (walk_start first second) ≡ []
unfolding ordered walk_start
so-far-none first second = refl

-- so many are in the list so far
pub record Counted (first second : List ℕ) (i j found : ℕ) : Type 0 where
  pub walked : Walked first second i j
  pub is : found ≡ length (so_far walked)
  pub few : found ≤ i + j

pub counted_start : (first second : List ℕ) → Counted first second 0 0 0
counted_start first second = record { walked = walk_start first second; is = sym (ap length (so-far-none first second)); few = omega arith }
