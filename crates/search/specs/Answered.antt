-- What a caller of the search is told, in the caller's words: on a valid call an assignment, 12 or 13, and nothing else. Assumes nothing.
use Rattle.std.specs.Prelude.{◌≡◌, List, ◌⊎◌, ℕ, ◌≤◌, ◌<◌, ℤ, length}
use Rattle.refusal.specs.declared.Refusal.{Refusal}
use Rattle.refusal.specs.Numbers as number
use Rattle.refusal.specs.Table.{refusal_of}
use Rattle.camera_direction.specs.ListLaws.{directions_in}
use Rattle.catalogue.specs.Format.{records_in}
use Rattle.catalogue.specs.Stars.{stars_of}
use Rattle.search_theory.specs.Order.{Same, Before, at}
use Rattle.search_fit.specs.Fit.{ranking_of, FitsHere}
use Rattle.search.specs.declared.Identification.{Identification}
use Rattle.search.specs.Identified.{refused_with, no_fit, setup_for}
use Rattle.std.specs.Prelude.{Ok}

-- the assignment fits the directions and the catalogue's stars
abbrev pub FitsCall : List ℤ → List ℕ → ℕ → ℕ → List ℕ → Type 0
FitsCall directions bytes needed tolerance = FitsHere (setup_for directions bytes needed tolerance) directions (stars_of bytes)

-- it has the other's stars, or comes before it in the ranking's order
abbrev pub NotAfter : List ℤ → List ℕ → List ℕ → List ℕ → List ℕ → Type 0
NotAfter directions bytes words xs ys =
    Same (directions_in directions) xs ys ⊎ Before (ranking_of (directions_in directions) (records_in bytes) words) xs ys

abbrev pub too_few : Refusal
too_few = record { number = number.few; place = 0 }

-- accepted exactly where an assignment fits, with one that does and that no other that does comes before; 12 exactly where there are fewer directions
-- than needed; 13 exactly where there are enough and none fits. There are eight words, 0 behind the directions
pub record Answered (directions : List ℤ) (bytes : List ℕ) (needed tolerance : ℕ) (words : List ℕ) (r : Identification) : Type 0 where
  pub one_of_three : (r.outcome ≡ Ok tt) ⊎ ((r ≡ refused_with too_few) ⊎ (r ≡ refused_with no_fit))
  pub fits : r.outcome ≡ Ok tt → FitsCall directions bytes needed tolerance r.stars
  pub first : r.outcome ≡ Ok tt → (ys : List ℕ) → FitsCall directions bytes needed tolerance ys → NotAfter directions bytes words r.stars ys
  pub accepts : (ys : List ℕ) → FitsCall directions bytes needed tolerance ys → r.outcome ≡ Ok tt
  pub rest : r.outcome ≡ Ok tt → (k : ℕ) → directions_in directions ≤ k → at r.stars k ≡ 0
  pub size : r.outcome ≡ Ok tt → length r.stars ≡ 8
  pub few : directions_in directions < needed → r ≡ refused_with too_few
  pub only-few : r.outcome ≡ refusal_of number.few 0 → directions_in directions < needed
  pub none : needed ≤ directions_in directions → ((ys : List ℕ) → FitsCall directions bytes needed tolerance ys → ⊥) → r ≡ refused_with no_fit
  pub only_none : r.outcome ≡ refusal_of number.no_fit 0 → (needed ≤ directions_in directions)
      × ((ys : List ℕ) → FitsCall directions bytes needed tolerance ys → ⊥)
