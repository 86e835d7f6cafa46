-- A call's answer in document 01's own terms: the number and the place of a refusal, 0 and 0 where there is none, and the values that are handed over,
-- none where the call is refused. Assumes nothing.
use Rattle.std.specs.Prelude.{List, [], ℕ, ℤ}
use Rattle.std.specs.Prelude.{Result, Ok, Err}
use Rattle.refusal.specs.declared.Refusal.{Refusal}

pub record Answer : Type 0 where
  pub number : ℕ
  pub place : ℕ
  pub values : List ℤ

abbrev pub refused_with : ℕ → ℕ → Answer
refused_with n p = record { number = n; place = p; values = [] }

abbrev pub accepted_with : List ℤ → Answer
accepted_with values = record { number = 0; place = 0; values = values }

-- that of a call whose answer is its outcome alone
abbrev pub answer_of : Result Unit Refusal → Answer
answer_of (Ok _) = accepted_with []
answer_of (Err r) = refused_with r.number r.place
