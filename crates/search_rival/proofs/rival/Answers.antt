-- The search's own refusal, or the first rival of its answer over the decoded stars.
use Rattle.std.proofs.Common.{◌≡◌, List, ℤ, ℕ, sym, ap, subst, ◌∙◌}
use Rattle.catalogue.specs.Stars.{stars_of}
use Rattle.search_fit.specs.Fit.{setup_of}
use Rattle.search_backtrack.specs.Input.{Input}
use Rattle.search.specs.declared.Identification.{Identification}
use Rattle.search.proofs.Answers.{handed}
use Rattle.search_rival.specs.declared.Contest.{Contest}
use Rattle.search_rival.specs.Contested.{FirstRival, Contested, contest_of}
use Rattle.search_rival.proofs.Answers.{none-refuses, contested, refused-contested, judged-contested}
use Rattle.search_rival.proofs.rival.Goals as goal

-- the outcome of the search's answer, which is another's
same_outcome : {a b : Identification} → a ≡ b → b.outcome ≡ a.outcome
same_outcome e = ap (λ (i : Identification). i.outcome) (sym e)

-- whatever keeps the promise is the computed answer
both : (directions : List ℤ) (bytes : List ℕ) (needed tolerance : ℕ) (ws : List ℕ) (r : Contest) → Contested directions bytes needed tolerance ws r
    → Contested directions bytes needed tolerance ws r × (r ≡ contest_of directions bytes needed tolerance ws)
both directions bytes needed tolerance ws r h = (h, contested directions bytes needed tolerance ws r h)

pub first_rival-answer-requires : goal.first_rival-answer-requires
first_rival-answer-requires c =
    let a = c.args in
    let e = none-refuses _ _ _ _ _ (same_outcome c.search-identification.ensures.1 ∙ c.in_default.is) in
    subst (λ (stars : List ℤ). Input (setup_of a.directions.now stars a.needed a.tolerance) a.ranking.now a.directions.now stars)
    (sym (c.all.ensures ∙ c.of-stars.ensures))
    (handed _ _ _ _ _ e)

pub returns-in-Err : goal.returns-in-Err
returns-in-Err c = both _ _ _ _ _ _ (refused-contested _ _ _ _ _ _ (same_outcome c.search-identification.ensures.1 ∙ c.in-Err.is))

pub returns : goal.returns
returns c =
    let a = c.args in
    let s = c.search-identification in
    let e = same_outcome s.ensures.1 ∙ c.in_default.is in
    both _ _ _ _ _ _
    (subst (Contested a.directions.now a.catalogue.now a.needed a.tolerance a.ranking.now) (sym c.settled.ensures)
    (judged-contested _ _ _ _ _ e _
    (subst (λ (i : Identification). FirstRival (setup_of a.directions.now (stars_of a.catalogue.now) a.needed a.tolerance) i.stars
    a.ranking.now a.directions.now (stars_of a.catalogue.now) c.first_rival-answer.result) s.ensures.1
    (subst (λ (stars : List ℤ). FirstRival (setup_of a.directions.now stars a.needed a.tolerance) s.result.stars
    a.ranking.now a.directions.now stars c.first_rival-answer.result)
    (c.all.ensures ∙ c.of-stars.ensures)
    c.first_rival-answer.ensures))))
