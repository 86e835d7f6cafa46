-- A call that counts: what it gives by the outcome of its rows, and the same in document 01's own terms. Assumes nothing.
use Rattle.std.specs.Prelude.{[], ◌∷◌, ℕ, pos}
use Rattle.refusal.specs.Table.{answered}
use Rattle.refusal.specs.Answer.{Answer, refused_with, accepted_with}
use Rattle.std.specs.Prelude.{Result, Ok, Err}
use Rattle.refusal.specs.declared.Refusal.{Refusal}

-- the refusal, or the count where there is none
abbrev pub counted_of : ℕ → Result Unit Refusal → Result ℕ Refusal
counted_of n o = answered Err (Ok n) o

abbrev pub count_answer : Result ℕ Refusal → Answer
count_answer (Err r) = refused_with r.number r.place
count_answer (Ok n) = accepted_with (pos n ∷ [])
