-- The search's promise on a valid call, in plain terms: 12 exactly where there are too few directions, 13 exactly where there are enough and no
-- assignment fits, and else the first that fits. Assumes nothing.
use mathlib.Core.Path.{◌≡◌, sym, ◌∙◌, ap}
use mathlib.Core.Bool.{true}
use mathlib.Core.List.{List}
use mathlib.Core.Logic.{◌⊎◌, inl, inr, ⊎_elim}
use Prim.Native.Nat.{ℕ, ◌≤◌, ◌<◌}
use native.Mathlib.Omega.{arith}
use borrow.Author.Tests.{le-leb}
use lib.IntN.{ℤ}
use Rattle.refusal.specs.Numbers as number
use Rattle.refusal.specs.Table.{refusal_of, first_applying}
use Rattle.camera_direction.specs.List.{list_ok}
use Rattle.camera_direction.specs.ListLaws.{directions_in, directions-ok}
use Rattle.catalogue.specs.Format.{records_in}
use Rattle.catalogue.specs.Stars.{stars_of}
use Rattle.catalogue.specs.CheckLaws.{valid-accepted}
use Rattle.search_theory.specs.Order.{Same, Before}
use Rattle.search_theory.proofs.Search.{assigned-below}
use Rattle.search_theory.proofs.Tests.{le-or-lt}
use Rattle.search.specs.declared.Identification.{Identification}
use Rattle.search_fit.specs.Fit.{ranking_of, FitsHere}
use Rattle.search.specs.Once.{lent_of}
use Rattle.search.specs.Refusals.{demand_ok, rows_beside, refusals_of}
use Rattle.search.specs.Identified.{refused_with, no_fit, accepted, setup_for, Searched, Identified, identification_of}
use Rattle.search.specs.Call.{Call}
use Rattle.search.specs.Answered.{Answered}
use Rattle.search.proofs.Answers.{computed-identified}
use Rattle.search.proofs.Once.{ranked-good}
use Rattle.search.proofs.Rejected.{too_few, none-applies, catalogue-valid}
use Rattle.std.specs.Prelude.{Result, Ok, Err}
use Rattle.refusal.specs.declared.Refusal.{Refusal}

-- the number of a refusal, and 0 where there is none
abbrev number_in : Result Unit Refusal → ℕ
number_in (Ok _) = 0
number_in (Err q) = q.number

module _ (directions : List ℤ) (bytes : List ℕ) (needed tolerance : ℕ) (words : List ℕ) (v : Call directions bytes needed tolerance words) where
  listed : list_ok directions ≡ true
  listed = directions-ok directions v.list

  demanded : demand_ok needed tolerance ≡ true
  unfolding demand_ok
  demanded = rw (le-leb 3 needed v.least, le-leb needed 8 v.most, le-leb tolerance 10000000000000000 v.near)

  once : lent_of words (directions_in directions) (records_in bytes) ≡ Ok tt
  once = ranked-good words (directions_in directions) (records_in bytes) v.size v.ranked

  beside : first_applying (refusals_of directions bytes needed tolerance words) ≡ first_applying (rows_beside directions (records_in bytes) needed tolerance words)
  beside = catalogue-valid directions bytes needed tolerance words (valid-accepted bytes v.catalogue)

  -- with enough directions none of 6 to 12 applies
  pub none-refuses : needed ≤ directions_in directions → first_applying (refusals_of directions bytes needed tolerance words) ≡ Ok tt
  none-refuses l = beside ∙ none-applies directions (records_in bytes) needed tolerance words listed demanded once l

  -- the assignments that fit
  abbrev Fit : List ℕ → Type 0
  Fit = FitsHere (setup_for directions bytes needed tolerance) directions (stars_of bytes)

  module _ (r : Identification) (I : Identified directions bytes needed tolerance words r) where
    pub few-refused : directions_in directions < needed → r ≡ refused_with (record { number = number.few; place = 0 })
    few-refused l = I.refused _ (beside ∙ too_few directions (records_in bytes) needed tolerance words listed demanded once l)

    module _ (enough : needed ≤ directions_in directions) where
      pub searched : Searched (setup_for directions bytes needed tolerance) words directions (stars_of bytes) r
      searched = I.searched (none-refuses enough)

      -- an assignment that fits is handed back
      pub accepted-fits : r.outcome ≡ Ok tt → Fit r.stars
      accepted-fits e = searched.first.fits (ap accepted e)

      -- every other that fits comes after it
      pub accepted-first : r.outcome ≡ Ok tt → (ys : List ℕ) → Fit ys
          → Same (directions_in directions) r.stars ys ⊎ Before (ranking_of (directions_in directions) (records_in bytes) words) r.stars ys
      accepted-first e = searched.first.first (ap accepted e)

      -- where one fits, one is handed back
      pub fits-accepted : (ys : List ℕ) → Fit ys → r.outcome ≡ Ok tt
      fits-accepted ys f = ⊎_elim (λ (a : r.outcome ≡ Ok tt). a) (λ (b : r ≡ refused_with no_fit).
          absurd (searched.first.none (ap (λ (i : Identification). accepted i.outcome) b) ys f)) searched.settled

      -- 13 exactly where none fits
      pub none-refused : ((ys : List ℕ) → Fit ys → ⊥) → r ≡ refused_with no_fit
      none-refused n = ⊎_elim (λ (a : r.outcome ≡ Ok tt). absurd (n r.stars (accepted-fits a))) (λ (b : r ≡ refused_with no_fit). b) searched.settled

      pub refused_none : r.outcome ≡ refusal_of number.no_fit 0 → (ys : List ℕ) → Fit ys → ⊥
      refused_none e = searched.first.none (ap accepted e)

      not-few : r.outcome ≡ refusal_of number.few 0 → ⊥
      not-few e =
          ⊎_elim
          (λ (a : r.outcome ≡ Ok tt). omega (arith, ap number_in (sym a ∙ e)))
          (λ (b : r ≡ refused_with no_fit). omega (arith, ap number_in (sym (ap (λ (i : Identification). i.outcome) b) ∙ e)))
          searched.settled

    -- and 12 exactly where there are fewer directions than needed
    pub refused-few : r.outcome ≡ refusal_of number.few 0 → directions_in directions < needed
    refused-few e = ⊎_elim (λ (h : needed ≤ directions_in directions). absurd (not-few h e)) (λ (h : directions_in directions < needed). h)
        (le-or-lt needed (directions_in directions))

    -- an answer of another number than 12 is given where there are enough
    enough-for : {o : Result Unit Refusal} → r.outcome ≡ o → (number_in o ≡ number.few → ⊥) → needed ≤ directions_in directions
    enough-for {o} e other =
        ⊎_elim (λ (h : needed ≤ directions_in directions). h)
        (λ (h : directions_in directions < needed). absurd (other (ap number_in (sym e) ∙ ap (λ (i : Identification). number_in i.outcome) (few-refused h))))
        (le-or-lt needed (directions_in directions))

    where-accepted : r.outcome ≡ Ok tt → needed ≤ directions_in directions
    where-accepted e = enough-for e (λ h. omega arith)

    where-none : r.outcome ≡ refusal_of number.no_fit 0 → needed ≤ directions_in directions
    where-none e = enough-for e (λ h. omega arith)

    -- an assignment that fits has a star for as many directions as are needed
    where-fits : (ys : List ℕ) → Fit ys → needed ≤ directions_in directions
    where-fits ys f = omega (arith, f.enough, assigned-below (records_in bytes) ys (directions_in directions))

    -- all of this at once
    pub identified-answered : Answered directions bytes needed tolerance words r
    identified-answered =
        record {
          one_of_three = ⊎_elim
              (λ (h : needed ≤ directions_in directions). ⊎_elim inl (λ b. inr (inr b)) (searched h).settled)
              (λ (h : directions_in directions < needed). inr (inl (few-refused h)))
              (le-or-lt needed (directions_in directions));
          fits = λ e. accepted-fits (where-accepted e) e;
          first = λ e. accepted-first (where-accepted e) e;
          accepts = λ ys f. fits-accepted (where-fits ys f) ys f;
          rest = λ e. (searched (where-accepted e)).rest;
          size = λ e. (searched (where-accepted e)).size;
          few = few-refused;
          only-few = refused-few;
          none = none-refused;
          only_none = λ e. (where-none e, refused_none (where-none e) e);
        }

  -- the answer to a valid call is an assignment, 12 or 13, and nothing else
  pub computed-answered : Answered directions bytes needed tolerance words (identification_of directions bytes needed tolerance words)
  computed-answered = identified-answered _ (computed-identified directions bytes needed tolerance words)
