-- What `first_applying` is for: a refusal is given exactly when its row applies and no row before it does, and none is given exactly when no row applies.
-- Assumes nothing.
use Rattle.std.specs.Prelude.{Bool, ◌≡◌, List, [], ◌∷◌, ◌++◌, ℕ}
use Rattle.std.proofs.Math.Bool.{true, false, cond}
use Rattle.std.proofs.Math.Path.{refl, ap}
use Rattle.std.proofs.Common.{sym, subst, ◌∙◌}
use Rattle.lists.specs.Contradiction.{contradiction}
use Rattle.refusal.specs.declared.Refusal.{Refusal}
use Rattle.refusal.specs.Table.{refusal_of, Row, row, row_at, first_applying, answered, otherwise}
use Rattle.std.specs.Prelude.{Result, Ok, Err}

-- ---- one row at a time, as the code meets them

-- ---- all rows

-- none of them applies
unfoldable pub Silent : List Row → Type 0
Silent [] = Unit
Silent (r ∷ rs) = (r.applies ≡ false) × Silent rs

-- a row that applies, with this number and place, stands behind rows of which none applies
pub record Given (rows : List Row) (n p : ℕ) : Type 0 where
  pub before : List Row
  pub after : List Row
  pub split : rows ≡ before ++ (row_at true n p ∷ after)
  pub silent : Silent before

-- ---- rows behind rows: the first list's refusal, or the second's

pub otherwise-accepted : (a b : Result Unit Refusal) → otherwise a b ≡ Ok tt → (a ≡ Ok tt) × (b ≡ Ok tt)
otherwise-accepted (Ok _) b e = (refl, e)
otherwise-accepted (Err r) b e = contradiction (cc)

-- ---- what holds of the number of every row holds of the number given

unfoldable pub Every : (ℕ → Type 0) → List Row → Type 0
Every P [] = Unit
Every P (r ∷ rs) = P r.number × Every P rs

pub every_append : (P : ℕ → Type 0) (xs ys : List Row) → Every P xs → Every P ys → Every P (xs ++ ys)
unfolding Every
every_append P [] ys a b = b
every_append P (x ∷ xs) ys a b = (a.0, every_append P xs ys a.1 b)
