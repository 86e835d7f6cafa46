-- Request T-14: the calls' answers in the documents' own terms: the number and place of a refusal, or the guider's numbers. Assumes nothing.
use Rattle.std.specs.Prelude.{Bool, true, false, cond, List, [], ◌∷◌, ◌++◌, map, ◌≡◌, refl, ℕ, ℤ, pos}
use Rattle.refusal.specs.Answer.{Answer, accepted_with, refused_with as refused_as}
use Rattle.frame_list.specs.declared.Report.{Report}
use Rattle.frame_list.specs.declared.Listing.{Listing}
use Rattle.guider_rule.specs.declared.Guide.{Guide}
use Rattle.guider_rule.specs.declared.Sighting.{Sighting}
use Rattle.guider_rule.specs.declared.Guider.{Guider}
use Rattle.guider_rule.specs.declared.Guided.{Guided}
use Rattle.guider_rule.specs.Guider.{guide_at, guider_after}
use Rattle.guider_rule.specs.Rule.{guider_ok, list_ok}
use Rattle.guider_rule.specs.Calls.{fresh_of, started_of, guided_of}
use Rattle.std.specs.Prelude.{Result, Ok, Err}
use Rattle.refusal.specs.declared.Refusal.{Refusal}

-- half-width, count, and identity, x, y and misses of each of four places
abbrev pub guide_numbers : Guide → List ℕ
guide_numbers guide = guide.identity ∷ guide.x ∷ guide.y ∷ guide.misses ∷ []

abbrev pub guider_numbers : Guider → List ℕ
guider_numbers g =
    g.half ∷ g.count ∷ (guide_numbers (guide_at g 0) ++ (guide_numbers (guide_at g 1) ++ (guide_numbers (guide_at g 2) ++ guide_numbers (guide_at g 3))))

unfoldable pub values_of : Guider → List ℤ
values_of g = map pos (guider_numbers g)

abbrev pub answer_by : Guider → Result Unit Refusal → Answer
answer_by g (Ok _) = accepted_with (values_of g)
answer_by g (Err r) = refused_as r.number r.place

abbrev pub guided_answer : Guided → Answer
guided_answer r = answer_by r.guider r.outcome

-- the answer that a start must have
abbrev pub start_answer : ℕ → List Sighting → ℕ → Answer
start_answer half stars count = cond (guider_ok (fresh_of half stars count)) (accepted_with (values_of (fresh_of half stars count))) (refused_as 22 0)

-- and the one of a frame: a refused frame leaves the guider
abbrev pub seen_answer : Guider → Report → Result Unit Refusal → Answer
seen_answer g r (Ok _) = cond (list_ok r) (accepted_with (values_of (guider_after g r))) (refused_as 22 0)
seen_answer g r (Err _) = accepted_with (values_of g)

abbrev pub frame_answer : Guider → Listing → Answer
frame_answer g l = cond (guider_ok g) (seen_answer g l.report l.outcome) (refused_as 22 0)

-- ---- the calls have these answers

pub start-answers : (half : ℕ) (stars : List Sighting) (count : ℕ) → guided_answer (started_of half stars count) ≡ start_answer half stars count
unfolding started_of
start-answers half stars count = by (guider_ok (fresh_of half stars count)) refl
  where
    by : (t : Bool) → guider_ok (fresh_of half stars count) ≡ t → guided_answer (started_of half stars count) ≡ start_answer half stars count
    by true e = rw e
    by false e = rw e

pub frame-answers : (g : Guider) (l : Listing) → guided_answer (guided_of g l) ≡ frame_answer g l
unfolding guided_of
frame-answers g l = by (guider_ok g) refl l.outcome refl (list_ok l.report) refl
  where
    by : (t : Bool) → guider_ok g ≡ t → (o : Result Unit Refusal) → l.outcome ≡ o → (u : Bool) → list_ok l.report ≡ u → guided_answer (guided_of g l) ≡ frame_answer g l
    by false e o f u q = rw e
    by true e (Err x) f u q = rw (e, f)
    by true e (Ok _) f true q = rw (e, f, q)
    by true e (Ok _) f false q = rw (e, f, q)
