-- What a call that counts gives says what its rows come to. Assumes nothing.
use Rattle.std.specs.Prelude.{◌≡◌, refl, List, [], ◌∷◌, ℕ, pos}
use Rattle.std.proofs.Common.{ap}
use Rattle.lists.specs.Contradiction.{contradiction}
use Rattle.refusal.specs.declared.Refusal.{Refusal}
use Rattle.refusal.specs.Table.{Row, first_applying}
use Rattle.refusal.specs.AnswerLaws.{answer_by}
use Rattle.refusal.specs.Counted.{counted_of, count_answer}
use Rattle.std.specs.Prelude.{Result, Ok, Err}

-- a count is given where nothing is refused
pub count-accepted : (k n : ℕ) (o : Result Unit Refusal) → counted_of k o ≡ Ok n → (o ≡ Ok tt) × (n ≡ k)
count-accepted k n (Ok _) e = (refl, cc)
count-accepted k n (Err r) e = contradiction (cc)

-- and a refusal is the outcome's
pub count-refused : (k : ℕ) (o : Result Unit Refusal) (r : Refusal) → counted_of k o ≡ Err r → o ≡ Err r
count-refused k (Ok _) r e = contradiction (cc)
count-refused k (Err q) r e = let d : q ≡ r = cc in ap Err d
