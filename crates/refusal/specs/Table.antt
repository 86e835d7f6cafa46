-- A call's refusals: the first of its rows that applies is given. A call lists its rows by number, but for 19, which stands before 5, and 17, which
-- stands before 8. Assumes nothing.
use Rattle.std.specs.Prelude.{Bool, true, false, cond, ◌≡◌, List, [], ◌∷◌, ℕ, ◌<◌}
use Rattle.refusal.specs.declared.Refusal.{Refusal}
use Rattle.std.specs.Prelude.{Result, Ok, Err}

abbrev pub refusal_of : ℕ → ℕ → Result Unit Refusal
refusal_of n p = Err (record { number = n; place = p })

-- a row of the table as a call meets it: whether it applies, its number, and the place that it names
pub record Row : Type 0 where
  pub applies : Bool
  pub number : ℕ
  pub place : ℕ

-- a row that names no place
abbrev pub row : Bool → ℕ → Row
row c n = record { applies = c; number = n; place = 0 }

abbrev pub row_at : Bool → ℕ → ℕ → Row
row_at c n p = record { applies = c; number = n; place = p }

-- the first row that applies
unfoldable pub first_applying : List Row → Result Unit Refusal
first_applying [] = Ok tt
first_applying (r ∷ rs) = cond r.applies (refusal_of r.number r.place) (first_applying rs)

-- what a call gives: f of the refusal, or a where none applies
abbrev pub answered : {A : Type 0} → (Refusal → A) → A → Result Unit Refusal → A
answered f a (Ok _) = a
answered f a (Err r) = f r

-- the first of two outcomes that is a refusal
abbrev pub otherwise : Result Unit Refusal → Result Unit Refusal → Result Unit Refusal
otherwise a b = answered Err b a
