-- What a call that counts gives says what its rows come to. Assumes nothing.
use Rattle.std.specs.Prelude.{◌≡◌, refl, List, [], ◌∷◌, ℕ, pos}
use Rattle.std.proofs.Common.{ap}
use Rattle.lists.specs.Contradiction.{contradiction}
use Rattle.refusal.specs.declared.Refusal.{Refusal}
use Rattle.refusal.specs.Table.{Row, first_applying}
use Rattle.refusal.specs.AnswerLaws.{answer_by}
use Rattle.refusal.proofs.AnswerLaws.{answered-by}
use Rattle.refusal.specs.Counted.{counted_of, count_answer}
use Rattle.std.specs.Prelude.{Ok, Err}

-- the answer is that of the first row that applies, or the count
pub count_by : (n : ℕ) (rows : List Row) → count_answer (counted_of n (first_applying rows)) ≡ answer_by rows (pos n ∷ [])
count_by n rows = answered-by Err (Ok n) count_answer (pos n ∷ []) (λ r. refl) refl rows
