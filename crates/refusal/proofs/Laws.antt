-- What `first_applying` is for: a refusal is given exactly when its row applies and no row before it does, and none is given exactly when no row applies.
-- Assumes nothing.
use Rattle.std.specs.Prelude.{Bool, ◌≡◌, List, [], ◌∷◌, ◌++◌, ℕ}
use Rattle.std.proofs.Math.Bool.{true, false, cond}
use Rattle.std.proofs.Math.Path.{refl, ap}
use Rattle.std.proofs.Common.{sym, subst, ◌∙◌}
use Rattle.lists.specs.Contradiction.{contradiction}
use Rattle.refusal.specs.declared.Refusal.{Refusal}
use Rattle.refusal.specs.Table.{refusal_of, Row, row, row_at, first_applying, answered, otherwise}
use Rattle.refusal.specs.Laws.{Silent, Given, otherwise-accepted, Every}
use Rattle.std.specs.Prelude.{Result, Ok, Err}

pub applying-here : (r : Row) (rs : List Row) → r.applies ≡ true → first_applying (r ∷ rs) ≡ refusal_of r.number r.place
unfolding first_applying
applying-here r rs e = rw e

pub applying-next : (r : Row) (rs : List Row) → r.applies ≡ false → first_applying (r ∷ rs) ≡ first_applying rs
unfolding first_applying
applying-next r rs e = rw e

silent-applying : (rows : List Row) → Silent rows → first_applying rows ≡ Ok tt
unfolding first_applying Silent
silent-applying [] s = refl
silent-applying (r ∷ rs) s = rw s.0 (silent-applying rs s.1)

skipped : (before : List Row) (r : Row) (after : List Row) → Silent before → r.applies ≡ true
    → first_applying (before ++ (r ∷ after)) ≡ refusal_of r.number r.place
unfolding Silent
skipped [] r after s e = applying-here r after e
skipped (b ∷ bs) r after s e = applying-next b (bs ++ (r ∷ after)) s.0 ∙ skipped bs r after s.1 e

pub given-refused : (rows : List Row) (n p : ℕ) → Given rows n p → first_applying rows ≡ refusal_of n p
given-refused rows n p g = ap first_applying g.split ∙ skipped g.before (row_at true n p) g.after g.silent refl

pub silent-accepted : (rows : List Row) → Silent rows → first_applying rows ≡ Ok tt
silent-accepted = silent-applying

-- the number and the place of a refusal, and 0 where there is none
number_in : Result Unit Refusal → ℕ
number_in (Ok _) = 0
number_in (Err r) = r.number

place_in : Result Unit Refusal → ℕ
place_in (Ok _) = 0
place_in (Err r) = r.place

by_row : (c : Bool) (k q n p : ℕ) (rs : List Row) → (first_applying rs ≡ refusal_of n p → Given rs n p)
    → cond c (refusal_of k q) (first_applying rs) ≡ refusal_of n p → Given (row_at c k q ∷ rs) n p
unfolding Silent number_in place_in
by_row true k q n p rs f e =
    let a : k ≡ n = ap number_in e in
    let b : q ≡ p = ap place_in e in
    record { before = []; after = rs; split = rw (a, b); silent = tt }
by_row false k q n p rs f e =
    let g = f e in
    record { before = row_at false k q ∷ g.before; after = g.after; split = ap (λ (l : List Row). row_at false k q ∷ l) g.split; silent = (refl, g.silent) }

pub refused-given : (rows : List Row) (n p : ℕ) → first_applying rows ≡ refusal_of n p → Given rows n p
unfolding first_applying
refused-given [] n p e = contradiction (cc)
refused-given (r ∷ rs) n p e = by_row r.applies r.number r.place n p rs (refused-given rs n p) e

by-silence : (c : Bool) (k q : ℕ) (rs : List Row) → (first_applying rs ≡ Ok tt → Silent rs) → cond c (refusal_of k q) (first_applying rs) ≡ Ok tt
    → (c ≡ false) × Silent rs
by-silence true k q rs f e = contradiction (cc)
by-silence false k q rs f e = (refl, f e)

pub accepted-silent : (rows : List Row) → first_applying rows ≡ Ok tt → Silent rows
unfolding first_applying Silent
accepted-silent [] e = tt
accepted-silent (r ∷ rs) e = by-silence r.applies r.number r.place rs (accepted-silent rs) e

pub applying-append : (xs ys : List Row) → first_applying (xs ++ ys) ≡ otherwise (first_applying xs) (first_applying ys)
unfolding first_applying
applying-append [] ys = refl
applying-append (r ∷ rs) ys = by r.applies (applying-append rs ys)
  where
    by : (c : Bool) → first_applying (rs ++ ys) ≡ otherwise (first_applying rs) (first_applying ys)
        → cond c (refusal_of r.number r.place) (first_applying (rs ++ ys)) ≡ otherwise (cond c (refusal_of r.number r.place) (first_applying rs))
        (first_applying ys)
    by true e = refl
    by false e = e

-- the rows behind are asked where none of those before applies
pub applying-behind : (xs ys : List Row) {o : Result Unit Refusal} → first_applying xs ≡ o → first_applying (xs ++ ys) ≡ otherwise o (first_applying ys)
applying-behind xs ys e = applying-append xs ys ∙ ap (λ (o : Result Unit Refusal). otherwise o (first_applying ys)) e

-- a single row behind others
module _ {A : Type 0} (refused : Refusal → A) (a : A) (rows : List Row) (c : Bool) (n : ℕ) where
  pub last-unasked : (r : Refusal) → first_applying rows ≡ Err r → answered refused a (first_applying (rows ++ (row c n ∷ []))) ≡ refused r
  last-unasked r e = ap (answered refused a) (applying-behind rows (row c n ∷ []) e)

  pub last-decides : first_applying rows ≡ Ok tt → answered refused a (first_applying (rows ++ (row c n ∷ [])))
      ≡ cond c (refused (record { number = n; place = 0 })) a
  unfolding first_applying
  last-decides e = ap (answered refused a) (applying-behind rows (row c n ∷ []) e) ∙ by c
    where
      by : (b : Bool) → answered refused a (otherwise (Ok tt) (cond b (refusal_of n 0) (Ok tt))) ≡ cond b (refused (record { number = n; place = 0 })) a
      by true = refl
      by false = refl

-- none of the rows applies, nor the one behind them
pub last-accepted : (rows : List Row) (c : Bool) (n : ℕ) → first_applying (rows ++ (row c n ∷ [])) ≡ Ok tt → (first_applying rows ≡ Ok tt) × (c ≡ false)
unfolding Silent
last-accepted rows c n e =
    let p = otherwise-accepted (first_applying rows) (first_applying (row c n ∷ [])) (sym (applying-append rows (row c n ∷ [])) ∙ e) in
    (p.0, (accepted-silent (row c n ∷ []) p.1).0)

by_number : (P : ℕ → Type 0) (c : Bool) (k p : ℕ) (rs : List Row) (q : Refusal) → P k → (first_applying rs ≡ Err q → P q.number)
    → cond c (refusal_of k p) (first_applying rs) ≡ Err q → P q.number
unfolding number_in
by_number P true k p rs q h f e = subst P (ap number_in e) h
by_number P false k p rs q h f e = f e

pub applying-every : (P : ℕ → Type 0) (rows : List Row) → Every P rows → (q : Refusal) → first_applying rows ≡ Err q → P q.number
unfolding first_applying Every
applying-every P [] a q e = contradiction (cc)
applying-every P (r ∷ rs) a q e = by_number P r.applies r.number r.place rs q a.0 (applying-every P rs a.1 q) e
