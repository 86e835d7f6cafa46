-- Answers that meet the search's promise, and that the promise is the computed answer: whatever is `Identified` is `identification_of`, and
-- `identification_of` is `Identified`. Assumes nothing.
use mathlib.Core.Path.{◌≡◌, refl, sym, ◌∙◌, ap, subst}
use mathlib.Core.Bool.{true, false}
use mathlib.Core.List.{List, []}
use mathlib.Core.Logic.{inl, inr, ⊎_elim}
use Prim.Native.Nat.{ℕ, ◌≤◌}
use native.Mathlib.Omega.{arith}
use lib.IntN.{ℤ}
use lib.ListN.{replicate, length}
use Rattle.lists.specs.Contradiction.{contradiction}
use Rattle.refusal.specs.declared.Refusal.{Refusal}
use Rattle.refusal.specs.Table.{Row, first_applying, answered}
use Rattle.search_theory.specs.Order.{Ranking, Ranked, FirstOf, at}
use Rattle.search_theory.specs.Problem.{Problem, order, Passing}
use Rattle.search_theory.specs.Run.{nothing, fit, is_fit, words, first_fit}
use Rattle.search_theory.specs.Run as computed
use Rattle.search_theory.proofs.Tests.{never}
use Rattle.search_theory.proofs.Run as run
use Rattle.camera_direction.specs.ListLaws.{directions_in, ok-directions}
use Rattle.catalogue.specs.Format.{records_in}
use Rattle.catalogue.specs.Stars.{stars_of}
use Rattle.catalogue.specs.Valid.{Valid}
use Rattle.catalogue.specs.CheckLaws.{accepted-valid}
use Rattle.catalogue.specs.ValidStars.{valid-length, valid-within}
use Rattle.search_fit.specs.declared.Setup.{Setup}
use Rattle.search.specs.declared.Identification.{Identification}
use Rattle.search_fit.specs.Fit.{ranking_of, setup_of, problem}
use Rattle.search_backtrack.specs.Input.{Input}
use Rattle.search.specs.First.{FirstFit}
use Rattle.search.specs.Refusals.{refusals_of}
use Rattle.search.specs.Identified.{refused_with, no_fit, accepted, setup_for, Searched, identification_by, Identified, pad_to, found_of, identification_of}
use Rattle.search_fit.proofs.Rules.{problem-local, first_passes, first_fits}
use Rattle.search_backtrack.proofs.Words.{zeros-at}
use Rattle.search.proofs.Padded.{pad-length, padded, padded-first, padded-rest}
use Rattle.search.proofs.Once.{good-ranked}
use Rattle.search.proofs.Rejected.{Asked, all-accepted, accepted-ranked}
use Rattle.std.specs.Prelude.{Result, Ok, Err, Option, Some, None, is_some, unwrap_or}

-- ---- the answer of a search

first-searched : (s : Setup) (ws : List ℕ) (directions stars : List ℤ) (a : Option (List ℕ)) → FirstFit s ws directions stars a
    → Searched s ws directions stars (identification_by a)
first-searched s ws directions stars (Some xs) f = record { settled = inl refl; first = f.first; rest = f.rest refl; size = f.size refl }
first-searched s ws directions stars None f = record {
  settled = inr refl;
  first = record { fits = λ h. never h; first = λ h. never h; none = f.first.none };
  rest = λ k l. zeros-at 8 k;
  size = refl;
}

module _ (s : Setup) (ws : List ℕ) (directions stars : List ℤ) (R : Ranked (ranking_of s.dirs s.stars ws)) (r : Identification)
    (S : Searched s ws directions stars r) where
  abbrev p : Problem
  p = problem s ws directions stars

  passing : FirstOf (order p) (Passing p) (accepted r.outcome) r.stars
  passing = first_passes s ws directions stars (accepted r.outcome) r.stars S.first

  verdict : accepted r.outcome ≡ is_fit (first_fit p)
  verdict = run.the-verdict p R (problem-local s ws directions stars) (accepted r.outcome) r.stars passing

  none_found : is_fit (first_fit p) ≡ false → r ≡ refused_with no_fit
  none_found e = ⊎_elim (λ (a : r.outcome ≡ Ok tt). never (sym e ∙ sym verdict ∙ ap accepted a)) (λ (b : r ≡ refused_with no_fit). b) S.settled

  is-accepted : is_fit (first_fit p) ≡ true → r.outcome ≡ Ok tt
  is-accepted e = ⊎_elim (λ (a : r.outcome ≡ Ok tt). a) (λ (b : r ≡ refused_with no_fit).
      never (sym (ap (λ (i : Identification). accepted i.outcome) b) ∙ verdict ∙ e)) S.settled

  same-words : is_fit (first_fit p) ≡ true → r.stars ≡ pad_to 8 (words (first_fit p))
  same-words e = padded p R (problem-local s ws directions stars) (accepted r.outcome) r.stars passing (λ _. S.rest) S.size e

  pub searched-found : r ≡ found_of (first_fit p)
  searched-found = by (first_fit p) refl
    where
      by : (a : computed.Answer) → first_fit p ≡ a → r ≡ found_of a
      by nothing e = none_found (ap is_fit e)
      by (fit xs) e = λ i. record {
        outcome = is-accepted (ap is_fit e) i;
        stars =
            (same-words (ap is_fit e) ∙ ap (λ (a : computed.Answer). pad_to 8 (words a)) e) i;
      }

-- ---- every call

module _ (directions : List ℤ) (bytes : List ℕ) (needed tolerance : ℕ) (ws : List ℕ) where
  abbrev rows : List Row
  rows = refusals_of directions bytes needed tolerance ws

  apart : {A : Type 0} (q : Refusal) → first_applying rows ≡ Err q → first_applying rows ≡ Ok tt → A
  apart q e h = contradiction (cc)

  pub refused-identified : (q : Refusal) → first_applying rows ≡ Err q → Identified directions bytes needed tolerance ws (refused_with q)
  refused-identified q e = record { refused = λ p h i. record { outcome = (sym e ∙ h) i; stars = replicate 8 0 }; searched = λ h. apart q e h }

  -- what the search is handed where none of 6 to 12 applies
  module _ (e : first_applying rows ≡ Ok tt) where
    pub valid : Valid bytes
    valid = accepted-valid bytes (all-accepted directions bytes needed tolerance ws e).0

    abbrev asked : Asked directions (records_in bytes) needed tolerance ws
    asked = (all-accepted directions bytes needed tolerance ws e).1

    pub same-setup : setup_of directions (stars_of bytes) needed tolerance ≡ setup_for directions bytes needed tolerance
    same-setup = ap (λ (n : ℕ). record { dirs = directions_in directions; stars = n; needed = needed; tolerance = tolerance })
        (omega (arith, valid-length bytes valid))

    pub handed : Input (setup_of directions (stars_of bytes) needed tolerance) ws directions (stars_of bytes)
    handed =
        let d = ok-directions directions asked.list in
        let g = good-ranked ws (directions_in directions) (records_in bytes) asked.good in
        subst (λ (s : Setup). Input s ws directions (stars_of bytes)) (sym same-setup)
        (record {
          lists = record {
            few = d.most;
            many = valid.size.most;
            long-directions = omega (arith, d.threes);
            long-stars = omega (arith, valid-length bytes valid);
            near-directions = d.within;
            near-stars = valid-within bytes valid;
          };
          size = g.0;
          ranked = g.1;
        })

    pub searched-identified : (a : Option (List ℕ)) → FirstFit (setup_of directions (stars_of bytes) needed tolerance) ws directions (stars_of bytes) a
        → Identified directions bytes needed tolerance ws (identification_by a)
    searched-identified a f =
        record {
          refused = λ q h. apart q h e;
          searched = λ _. first-searched (setup_for directions bytes needed tolerance) ws directions (stars_of bytes) a
              (subst (λ (s : Setup). FirstFit s ws directions (stars_of bytes) a) same-setup f);
        }

pub identified : (directions : List ℤ) (bytes : List ℕ) (needed tolerance : ℕ) (ws : List ℕ) (r : Identification)
    → Identified directions bytes needed tolerance ws r → r ≡ identification_of directions bytes needed tolerance ws
unfolding identification_of
identified directions bytes needed tolerance ws r I = by (first_applying (refusals_of directions bytes needed tolerance ws)) refl
  where
    by : (o : Result Unit Refusal) → first_applying (refusals_of directions bytes needed tolerance ws) ≡ o
        → r ≡ answered refused_with (found_of (first_fit (problem (setup_for directions bytes needed tolerance) ws directions (stars_of bytes))))
        (first_applying (refusals_of directions bytes needed tolerance ws))
    by (Ok _) e = rw e (searched-found (setup_for directions bytes needed tolerance) ws directions (stars_of bytes)
        (accepted-ranked directions bytes needed tolerance ws e) r (I.searched e))
    by (Err q) e = rw e (I.refused q e)

-- ---- the other way

-- the computed answer, in the form of the search's own
abbrev pub answer_in : computed.Answer → Option (List ℕ)
answer_in nothing = None
answer_in (fit xs) = Some (pad_to 8 xs)

-- what holds of its words, where there are any, holds of that
pub answer-first : (g : Ranking) (F : List ℕ → Type 0) (a : computed.Answer) → FirstOf g F (is_fit a) (pad_to 8 (words a))
    → FirstOf g F (is_some (answer_in a)) (unwrap_or (answer_in a) [])
answer-first g F nothing h = record { fits = λ e. never e; first = λ e. never e; none = h.none }
answer-first g F (fit xs) h = h

pub answer-rest : (a : computed.Answer) (n : ℕ) → (is_fit a ≡ true → (k : ℕ) → n ≤ k → at (pad_to 8 (words a)) k ≡ 0)
    → is_some (answer_in a) ≡ true → (k : ℕ) → n ≤ k → at (unwrap_or (answer_in a) []) k ≡ 0
answer-rest nothing n h e = never e
answer-rest (fit xs) n h e = h e

pub answer-size : (a : computed.Answer) → is_some (answer_in a) ≡ true → length (unwrap_or (answer_in a) []) ≡ 8
answer-size nothing e = never e
answer-size (fit xs) e = pad-length 8 xs

settled : (a : computed.Answer) → identification_by (answer_in a) ≡ found_of a
settled nothing = refl
settled (fit xs) = refl

computed-first : (s : Setup) (ws : List ℕ) (directions stars : List ℤ) → Ranked (ranking_of s.dirs s.stars ws) → s.dirs ≤ 8
    → FirstFit s ws directions stars (answer_in (first_fit (problem s ws directions stars)))
computed-first s ws directions stars R few =
    let p : Problem = problem s ws directions stars in
    record {
      first = answer-first _ _ (first_fit p) (first_fits s ws directions stars (is_fit (first_fit p)) (pad_to 8 (words (first_fit p)))
          (padded-first p R (problem-local s ws directions stars) few));
      rest = answer-rest (first_fit p) _ (padded-rest p R (problem-local s ws directions stars) few);
      size = answer-size (first_fit p);
    }

-- demand 3 of the computed answer, on every call
pub computed-identified : (directions : List ℤ) (bytes : List ℕ) (needed tolerance : ℕ) (ws : List ℕ)
    → Identified directions bytes needed tolerance ws (identification_of directions bytes needed tolerance ws)
unfolding identification_of
computed-identified directions bytes needed tolerance ws = by (first_applying (refusals_of directions bytes needed tolerance ws)) refl
  where
    by : (o : Result Unit Refusal) → first_applying (refusals_of directions bytes needed tolerance ws) ≡ o
        → Identified directions bytes needed tolerance ws (identification_of directions bytes needed tolerance ws)
    by (Err q) e = rw e (refused-identified directions bytes needed tolerance ws q e)
    by (Ok _) e =
        let a = first_fit (problem (setup_for directions bytes needed tolerance) ws directions (stars_of bytes)) in
        rw e
        (subst (Identified directions bytes needed tolerance ws) (settled a)
        (searched-identified directions bytes needed tolerance ws e (answer_in a)
        (subst (λ (s : Setup). FirstFit s ws directions (stars_of bytes) (answer_in a)) (sym (same-setup directions bytes needed tolerance ws e))
        (computed-first (setup_for directions bytes needed tolerance) ws directions (stars_of bytes) (accepted-ranked directions bytes needed tolerance ws e)
        (handed directions bytes needed tolerance ws e).lists.few))))
