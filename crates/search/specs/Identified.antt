-- What the search answers. `Identified` is its promise, on every input; `identification_of` is the same answer, computed. Assumes nothing.
use Rattle.std.specs.Prelude.{◌≡◌, Bool, true, false, List, [], ◌∷◌, ◌⊎◌, ℕ, zero, suc, ◌≤◌, ℤ, length, replicate, Option, Some, None}
use Rattle.refusal.specs.declared.Refusal.{Refusal}
use Rattle.refusal.specs.Numbers as number
use Rattle.refusal.specs.Table.{first_applying, answered}
use Rattle.camera_direction.specs.ListLaws.{directions_in}
use Rattle.catalogue.specs.Format.{records_in}
use Rattle.catalogue.specs.Stars.{stars_of}
use Rattle.search_theory.specs.Order.{FirstOf, at}
use Rattle.search_theory.specs.Run as run
use Rattle.search_fit.specs.declared.Setup.{Setup}
use Rattle.search.specs.declared.Identification.{Identification}
use Rattle.search_fit.specs.Fit.{ranking_of, FitsHere, problem}
use Rattle.search.specs.Refusals.{refusals_of}
use Rattle.std.specs.Prelude.{Result, Ok, Err}

-- a refused call hands over no assignment: its words are 0
abbrev pub refused_with : Refusal → Identification
refused_with q = record { outcome = Err q; stars = replicate 8 0 }

abbrev pub no_fit : Refusal
no_fit = record { number = number.no_fit; place = 0 }

abbrev pub accepted : Result Unit Refusal → Bool
accepted (Ok _) = true
accepted (Err q) = false

abbrev pub setup_for : List ℤ → List ℕ → ℕ → ℕ → Setup
setup_for directions bytes needed tolerance = record { dirs = directions_in directions; stars = records_in bytes; needed = needed; tolerance = tolerance }

-- demand 3: the call is accepted or refused with 13. Where accepted, the words fit and every other assignment that fits comes after them in the
-- ranking's order; where refused, none fits. The words behind the directions are 0
pub record Searched (s : Setup) (words : List ℕ) (directions stars : List ℤ) (r : Identification) : Type 0 where
  pub settled : (r.outcome ≡ Ok tt) ⊎ (r ≡ refused_with no_fit)
  pub first : FirstOf (ranking_of s.dirs s.stars words) (FitsHere s directions stars) (accepted r.outcome) r.stars
  pub rest : (k : ℕ) → s.dirs ≤ k → at r.stars k ≡ 0
  pub size : length r.stars ≡ 8

-- the answer that a search's own comes to
abbrev pub identification_by : Option (List ℕ) → Identification
identification_by (Some xs) = record { outcome = Ok tt; stars = xs }
identification_by None = refused_with no_fit

-- the first of 6 to 12 that applies is given; where none does, the search's own answer
pub record Identified (directions : List ℤ) (bytes : List ℕ) (needed tolerance : ℕ) (words : List ℕ) (r : Identification) : Type 0 where
  pub refused : (q : Refusal) → first_applying (refusals_of directions bytes needed tolerance words) ≡ Err q → r ≡ refused_with q
  pub searched : first_applying (refusals_of directions bytes needed tolerance words) ≡ Ok tt
      → Searched (setup_for directions bytes needed tolerance) words directions (stars_of bytes) r

-- the first n words, with zeros behind the last
unfoldable pub pad_to : ℕ → List ℕ → List ℕ
pad_to zero xs = []
pad_to (suc n) [] = 0 ∷ pad_to n []
pad_to (suc n) (x ∷ xs) = x ∷ pad_to n xs

abbrev pub found_of : run.Answer → Identification
found_of run.nothing = refused_with no_fit
found_of (run.fit xs) = record { outcome = Ok tt; stars = pad_to 8 xs }

unfoldable pub identification_of : List ℤ → List ℕ → ℕ → ℕ → List ℕ → Identification
identification_of directions bytes needed tolerance words =
    answered refused_with (found_of (run.first_fit (problem (setup_for directions bytes needed tolerance) words directions (stars_of bytes))))
    (first_applying (refusals_of directions bytes needed tolerance words))
