-- Answers that meet the promise, and that the promise is the computed answer: whatever is `Contested` is `contest_of`, and `contest_of` is `Contested`.
-- Assumes nothing.
use mathlib.Core.Path.{◌≡◌, refl, sym, ◌∙◌, ap, subst}
use mathlib.Core.Bool.{true, false}
use mathlib.Core.List.{List}
use Prim.Native.Nat.{ℕ, ◌≤◌}
use lib.IntN.{ℤ}
use lib.ListN.{replicate}
use Rattle.lists.specs.Contradiction.{contradiction}
use Rattle.refusal.specs.declared.Refusal.{Refusal}
use Rattle.refusal.specs.Table.{first_applying, answered}
use Rattle.catalogue.specs.Stars.{stars_of}
use Rattle.search_theory.specs.Order.{Ranked, FirstOf}
use Rattle.search_theory.specs.Problem.{Problem, order, Passing, Local}
use Rattle.search_theory.specs.Rival.{sought}
use Rattle.search_theory.specs.Run.{nothing, fit, is_fit, words, first_fit}
use Rattle.search_theory.specs.Run as computed
use Rattle.search_theory.proofs.Tests.{never}
use Rattle.search_theory.proofs.Rival.{sought-local}
use Rattle.search_theory.proofs.Run as run
use Rattle.search_fit.specs.declared.Setup.{Setup}
use Rattle.search_fit.specs.Fit.{ranking_of, setup_of, problem}
use Rattle.search_fit.proofs.Rules.{problem-local, first-sought, first-rival}
use Rattle.search_backtrack.proofs.Words.{zeros-at}
use Rattle.search.specs.declared.Identification.{Identification}
use Rattle.search.specs.Refusals.{refusals_of}
use Rattle.search.specs.Identified as found
use Rattle.search.specs.Identified.{setup_for, pad_to, identification_of}
use Rattle.search.proofs.Padded.{padded, padded-first, padded-rest}
use Rattle.search.proofs.Rejected.{accepted-ranked}
use Rattle.search.proofs.Answers as answers
use Rattle.search_rival.specs.declared.Contest.{Contest}
use Rattle.search_rival.specs.Contested.{FirstRival, refused_with, contest_by, Judged, Contested, found_of, contest_of}
use Rattle.std.specs.Prelude.{Result, Ok, Err, Option, Some, None}

-- ---- the answer of a search for rivals

first-judged : (s : Setup) (ours ws : List ℕ) (directions stars : List ℤ) (a : Option (List ℕ)) → FirstRival s ours ws directions stars a
    → Judged s ours ws directions stars (contest_by a)
first-judged s ours ws directions stars (Some xs) f =
    record { accepted = refl; first = f.first; none = λ h. never (sym h); rest = f.rest refl; size = f.size refl }
first-judged s ours ws directions stars None f =
    record {
      accepted = refl;
      first = record { fits = λ h. never h; first = λ h. never h; none = f.first.none };
      none = λ _. refl;
      rest = λ k l. zeros-at 8 k;
      size = refl;
    }

module _ (s : Setup) (ours ws : List ℕ) (directions stars : List ℤ) (R : Ranked (ranking_of s.dirs s.stars ws)) (r : Contest)
    (J : Judged s ours ws directions stars r) where
  abbrev p : Problem
  p = sought true ours (problem s ws directions stars)

  local : Local p
  local = sought-local (problem s ws directions stars) ours true (problem-local s ws directions stars)

  passing : FirstOf (order p) (Passing p) r.rival r.stars
  passing = first-sought s ws directions stars r.rival r.stars ours J.first

  verdict : r.rival ≡ is_fit (first_fit p)
  verdict = run.the-verdict p R local r.rival r.stars passing

  same-words : is_fit (first_fit p) ≡ true → r.stars ≡ pad_to 8 (words (first_fit p))
  same-words e = padded p R local r.rival r.stars passing (λ _. J.rest) J.size e

  pub judged-found : r ≡ found_of (first_fit p)
  judged-found = by (first_fit p) refl
    where
      by : (a : computed.Answer) → first_fit p ≡ a → r ≡ found_of a
      by nothing e = J.none (verdict ∙ ap is_fit e)
      by (fit xs) e =
          λ i. record {
            outcome = J.accepted i;
            rival = (verdict ∙ ap is_fit e) i;
            stars =
                (same-words (ap is_fit e) ∙ ap (λ (a : computed.Answer). pad_to 8 (words a)) e) i;
          }

-- ---- every call

module _ (directions : List ℤ) (bytes : List ℕ) (needed tolerance : ℕ) (ws : List ℕ) where
  abbrev ours : Identification
  ours = identification_of directions bytes needed tolerance ws

  -- where the search answers, none of 6 to 12 applies
  pub none-refuses : ours.outcome ≡ Ok tt → first_applying (refusals_of directions bytes needed tolerance ws) ≡ Ok tt
  unfolding identification_of
  none-refuses h = by (first_applying (refusals_of directions bytes needed tolerance ws))
      (found.found_of (first_fit (problem (setup_for directions bytes needed tolerance) ws directions (stars_of bytes)))) h
    where
      by : (o : Result Unit Refusal) (i : Identification) → (answered found.refused_with i o).outcome ≡ Ok tt → o ≡ Ok tt
      by (Ok _) i e = refl
      by (Err q) i e = e

  apart : {A : Type 0} (q : Refusal) → ours.outcome ≡ Err q → ours.outcome ≡ Ok tt → A
  apart q e h = contradiction (cc)

  pub refused-contested : (q : Refusal) → ours.outcome ≡ Err q → Contested directions bytes needed tolerance ws (refused_with q)
  refused-contested q e =
      record { refused = λ p h i. record { outcome = (sym e ∙ h) i; rival = false; stars = replicate 8 0 }; judged = λ h. apart q e h }

  pub judged-contested : (e : ours.outcome ≡ Ok tt) (a : Option (List ℕ)) → FirstRival (setup_of directions (stars_of bytes) needed tolerance) ours.stars ws
      directions (stars_of bytes) a → Contested directions bytes needed tolerance ws (contest_by a)
  judged-contested e a f =
      record {
        refused = λ q h. apart q h e;
        judged = λ _. first-judged (setup_for directions bytes needed tolerance) ours.stars ws directions (stars_of bytes) a
            (subst (λ (s : Setup). FirstRival s ours.stars ws directions (stars_of bytes) a)
            (answers.same-setup directions bytes needed tolerance ws (none-refuses e)) f);
      }

  pub contested : (r : Contest) → Contested directions bytes needed tolerance ws r → r ≡ contest_of directions bytes needed tolerance ws
  unfolding contest_of
  contested r C = by ours.outcome refl
    where
      by : (o : Result Unit Refusal) → ours.outcome ≡ o → r ≡ answered refused_with (found_of
          (first_fit (sought true ours.stars (problem (setup_for directions bytes needed tolerance) ws directions (stars_of bytes))))) ours.outcome
      by (Ok _) e =
          rw e
          (judged-found (setup_for directions bytes needed tolerance) ours.stars ws directions (stars_of bytes)
          (accepted-ranked directions bytes needed tolerance ws (none-refuses e)) r (C.judged e))
      by (Err q) e = rw e (C.refused q e)

-- ---- the other way

settled : (a : computed.Answer) → contest_by (answers.answer_in a) ≡ found_of a
settled nothing = refl
settled (fit xs) = refl

module _ (s : Setup) (ours ws : List ℕ) (directions stars : List ℤ) where
  abbrev rivals : Problem
  rivals = sought true ours (problem s ws directions stars)

  rivals-local : Local rivals
  rivals-local = sought-local (problem s ws directions stars) ours true (problem-local s ws directions stars)

  computed-first : Ranked (ranking_of s.dirs s.stars ws) → s.dirs ≤ 8 → FirstRival s ours ws directions stars (answers.answer_in (first_fit rivals))
  computed-first R few =
      record {
        first = answers.answer-first _ _ (first_fit rivals) (first-rival s ws directions stars (is_fit (first_fit rivals))
            (pad_to 8 (words (first_fit rivals))) ours (padded-first rivals R rivals-local few));
        rest = answers.answer-rest (first_fit rivals) _ (padded-rest rivals R rivals-local few);
        size = answers.answer-size (first_fit rivals);
      }

-- the computed answer is the first rival, or that there is none, or the search's refusal, on every call
pub computed-contested : (directions : List ℤ) (bytes : List ℕ) (needed tolerance : ℕ) (ws : List ℕ)
    → Contested directions bytes needed tolerance ws (contest_of directions bytes needed tolerance ws)
unfolding contest_of
computed-contested directions bytes needed tolerance ws = by (identification_of directions bytes needed tolerance ws).outcome refl
  where
    by : (o : Result Unit Refusal) → (identification_of directions bytes needed tolerance ws).outcome ≡ o
        → Contested directions bytes needed tolerance ws (contest_of directions bytes needed tolerance ws)
    by (Err q) e = rw e (refused-contested directions bytes needed tolerance ws q e)
    by (Ok _) e =
        let own = (identification_of directions bytes needed tolerance ws).stars in
        let s = setup_for directions bytes needed tolerance in
        let a = first_fit (rivals s own ws directions (stars_of bytes)) in
        let n : first_applying (refusals_of directions bytes needed tolerance ws) ≡ (Ok tt) = none-refuses directions bytes needed tolerance ws e in
        rw e
        (subst (Contested directions bytes needed tolerance ws) (settled a)
        (judged-contested directions bytes needed tolerance ws e (answers.answer_in a)
        (subst (λ (z : Setup). FirstRival z own ws directions (stars_of bytes) (answers.answer_in a))
        (sym (answers.same-setup directions bytes needed tolerance ws n))
        (computed-first s own ws directions (stars_of bytes) (accepted-ranked directions bytes needed tolerance ws n)
        (answers.handed directions bytes needed tolerance ws n).lists.few))))
