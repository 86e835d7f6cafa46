-- The first refusal, or the first fit over the decoded stars.
use Rattle.std.proofs.Common.{◌≡◌, List, ℤ, ℕ, sym, subst, ◌∙◌}
use Rattle.search_fit.specs.Fit.{setup_of}
use Rattle.search_backtrack.specs.Input.{Input}
use Rattle.search.specs.First.{FirstFit}
use Rattle.search.specs.declared.Identification.{Identification}
use Rattle.search.specs.Identified.{Identified, identification_of}
use Rattle.search.proofs.Answers.{handed, identified, refused-identified, searched-identified}
use Rattle.search.proofs.search.Goals as goal

-- whatever keeps the promise is the computed answer
both : (directions : List ℤ) (bytes : List ℕ) (needed tolerance : ℕ) (ws : List ℕ) (r : Identification) → Identified directions bytes needed tolerance ws r
    → Identified directions bytes needed tolerance ws r × (r ≡ identification_of directions bytes needed tolerance ws)
both directions bytes needed tolerance ws r h = (h, identified directions bytes needed tolerance ws r h)

pub first_fit-answer-requires : goal.first_fit-answer-requires
first_fit-answer-requires c =
    let a = c.args in
    let e = sym c.first_refusal-outcome.ensures ∙ c.in_default.is in
    subst (λ (stars : List ℤ). Input (setup_of a.directions.now stars a.needed a.tolerance) a.ranking.now a.directions.now stars)
    (sym (c.all.ensures ∙ c.of-stars.ensures))
    (handed _ _ _ _ _ e)

pub returns-in-Err : goal.returns-in-Err
returns-in-Err c = both _ _ _ _ _ _ (refused-identified _ _ _ _ _ _ (sym c.first_refusal-outcome.ensures ∙ c.in-Err.is))

pub returns : goal.returns
returns c =
    let a = c.args in
    let e = sym c.first_refusal-outcome.ensures ∙ c.in_default.is in
    both _ _ _ _ _ _
    (subst (Identified a.directions.now a.catalogue.now a.needed a.tolerance a.ranking.now) (sym c.settled.ensures)
    (searched-identified _ _ _ _ _ e _
    (subst (λ (stars : List ℤ). FirstFit (setup_of a.directions.now stars a.needed a.tolerance) a.ranking.now a.directions.now stars
    c.first_fit-answer.result) (c.all.ensures ∙ c.of-stars.ensures)
    c.first_fit-answer.ensures)))
