-- T-11: what the call answers. `Contested` is its promise, on every input; `contest_of` is the same answer, computed. Assumes nothing.
use Rattle.std.specs.Prelude.{◌≡◌, true, false, List, [], ℕ, ◌≤◌, ℤ, length, replicate, Option, Some, None, is_some, unwrap_or}
use Rattle.refusal.specs.declared.Refusal.{Refusal}
use Rattle.refusal.specs.Table.{answered}
use Rattle.catalogue.specs.Stars.{stars_of}
use Rattle.search_theory.specs.Order.{FirstOf, at}
use Rattle.search_theory.specs.Rival.{Rival, sought}
use Rattle.search_theory.specs.Run as run
use Rattle.search_fit.specs.declared.Setup.{Setup}
use Rattle.search_fit.specs.Fit.{ranking_of, FitsHere, problem}
use Rattle.search.specs.Identified.{setup_for, pad_to, identification_of}
use Rattle.search_rival.specs.declared.Contest.{Contest}
use Rattle.std.specs.Prelude.{Ok, Err}

-- an assignment that fits, and gives some direction another star than ours does
abbrev pub RivalHere : Setup → List ℕ → List ℤ → List ℤ → List ℕ → Type 0
RivalHere s ours directions stars = Rival s.dirs s.stars ours (FitsHere s directions stars)

-- where there is an answer, its words are a rival and every other comes after them in the ranking's order; where there is none, there is no rival
pub record FirstRival (s : Setup) (ours words : List ℕ) (directions stars : List ℤ) (r : Option (List ℕ)) : Type 0 where
  pub first : FirstOf (ranking_of s.dirs s.stars words) (RivalHere s ours directions stars) (is_some r) (unwrap_or r [])
  pub rest : is_some r ≡ true → (k : ℕ) → s.dirs ≤ k → at (unwrap_or r []) k ≡ 0
  pub size : is_some r ≡ true → length (unwrap_or r []) ≡ 8

-- a refused call hands over no assignment, and neither does one that finds ours alone: the words are 0
abbrev pub refused_with : Refusal → Contest
refused_with q = record { outcome = Err q; rival = false; stars = replicate 8 0 }

abbrev pub alone : Contest
alone = record { outcome = Ok tt; rival = false; stars = replicate 8 0 }

abbrev pub contest_by : Option (List ℕ) → Contest
contest_by (Some xs) = record { outcome = Ok tt; rival = true; stars = xs }
contest_by None = alone

-- alone exactly where there is no rival of ours; else the words are one, and every other comes after them. The words behind the directions are 0
pub record Judged (s : Setup) (ours words : List ℕ) (directions stars : List ℤ) (r : Contest) : Type 0 where
  pub accepted : r.outcome ≡ Ok tt
  pub first : FirstOf (ranking_of s.dirs s.stars words) (RivalHere s ours directions stars) r.rival r.stars
  pub none : r.rival ≡ false → r ≡ alone
  pub rest : (k : ℕ) → s.dirs ≤ k → at r.stars k ≡ 0
  pub size : length r.stars ≡ 8

-- refused as the search is; where it answers, ours is its answer
pub record Contested (directions : List ℤ) (bytes : List ℕ) (needed tolerance : ℕ) (words : List ℕ) (r : Contest) : Type 0 where
  pub refused : (q : Refusal) → (identification_of directions bytes needed tolerance words).outcome ≡ Err q → r ≡ refused_with q
  pub judged : (identification_of directions bytes needed tolerance words).outcome ≡ Ok tt
      → Judged (setup_for directions bytes needed tolerance) (identification_of directions bytes needed tolerance words).stars words directions (stars_of bytes) r

abbrev pub found_of : run.Answer → Contest
found_of run.nothing = alone
found_of (run.fit xs) = record { outcome = Ok tt; rival = true; stars = pad_to 8 xs }

unfoldable pub contest_of : List ℤ → List ℕ → ℕ → ℕ → List ℕ → Contest
contest_of directions bytes needed tolerance words =
    answered refused_with
    (found_of
    (run.first_fit
    (sought true (identification_of directions bytes needed tolerance words).stars
    (problem (setup_for directions bytes needed tolerance) words directions (stars_of bytes)))))
    (identification_of directions bytes needed tolerance words).outcome
