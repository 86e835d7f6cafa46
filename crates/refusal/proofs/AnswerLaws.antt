-- The answer of a call that goes by its rows: one law for every kind of answer. Assumes nothing.
use Rattle.std.specs.Prelude.{Bool, ◌≡◌, refl, ℤ}
use Rattle.std.proofs.Math.Bool.{true, false, cond}
use mathlib.Core.List.{List, [], ◌∷◌}
use Rattle.std.proofs.Common.{sym, ap, ◌∙◌}
use Rattle.refusal.specs.declared.Refusal.{Refusal}
use Rattle.refusal.specs.Table.{refusal_of, Row, first_applying, answered}
use Rattle.refusal.specs.Answer.{Answer, refused_with, accepted_with, answer_of}
use Rattle.refusal.specs.AnswerLaws.{answer_by}
use Rattle.std.specs.Prelude.{Result, Ok, Err}

-- what a call gives by its rows, put into document 01's terms
module _
    {A : Type 0} (refused : Refusal → A) (a : A) (toAnswer : A → Answer) (values : List ℤ)
    (of-refused : (r : Refusal) → toAnswer (refused r) ≡ refused_with r.number r.place)
    (of-accepted : toAnswer a ≡ accepted_with values) where
  pub answered-by : (rows : List Row) → toAnswer (answered refused a (first_applying rows)) ≡ answer_by rows values
  unfolding first_applying answer_by
  answered-by [] = of-accepted
  answered-by (r ∷ rs) = by r.applies (answered-by rs)
    where
      by : (c : Bool) → toAnswer (answered refused a (first_applying rs)) ≡ answer_by rs values
          → toAnswer (answered refused a (cond c (refusal_of r.number r.place) (first_applying rs))) ≡ cond c (refused_with r.number r.place)
          (answer_by rs values)
      by true e = of-refused (record { number = r.number; place = r.place })
      by false e = e

-- the same of a call whose answer is its outcome alone
pub outcome-by : (rows : List Row) → answer_of (first_applying rows) ≡ answer_by rows []
outcome-by rows = ap answer_of (sym (same (first_applying rows))) ∙ answered-by Err (Ok tt) answer_of [] (λ r. refl) refl rows
  where
    same : (o : Result Unit Refusal) → answered Err (Ok tt) o ≡ o
    same (Ok _) = refl
    same (Err r) = refl
