-- The answer of a call that goes by its rows: one law for every kind of answer. Assumes nothing.
use Rattle.std.specs.Prelude.{Bool, ◌≡◌, refl, ℤ}
use Rattle.std.proofs.Math.Bool.{true, false, cond}
use mathlib.Core.List.{List, [], ◌∷◌}
use Rattle.std.proofs.Common.{sym, ap, ◌∙◌}
use Rattle.refusal.specs.declared.Refusal.{Refusal}
use Rattle.refusal.specs.Table.{refusal_of, Row, first_applying, answered}
use Rattle.refusal.specs.Answer.{Answer, refused_with, accepted_with, answer_of}

-- the first row that applies, or else the values
unfoldable pub answer_by : List Row → List ℤ → Answer
answer_by [] values = accepted_with values
answer_by (r ∷ rs) values = cond r.applies (refused_with r.number r.place) (answer_by rs values)

-- a call promises what it gives, and that in document 01's terms: the second follows from the first
pub in-terms : {A : Type 0} (toAnswer : A → Answer) {r a : A} {x : Answer} → r ≡ a → toAnswer a ≡ x → (r ≡ a) × (toAnswer r ≡ x)
in-terms toAnswer e f = (e, ap toAnswer e ∙ f)
