-- Products that agree are near each other, and a product whose place is not marked agrees with none. Assumes nothing.
use Rattle.std.specs.Prelude.{◌≡◌, refl, Bool, true, false, List, [], ◌∷◌, ℕ, suc, ◌+◌, ◌≤◌, ◌<◌, T, ℤ, pos, negsuc, nat_abs, ◌+ℤ◌, ◌-ℤ◌, length, get_or}
use Rattle.std.proofs.Common.{sym, ap, ◌∙◌, arith, le-ltb}
use Rattle.std.proofs.Math.Bool.{and-false}
use Rattle.std.specs.Int.Signed.{non_neg}
use Rattle.numbers.specs.Abs.{abs-add, abs-zero-sub}
use Rattle.numbers.specs.Solver.{var, num, ◌⊕◌, ◌⊖◌}
use Rattle.numbers.proofs.Solver.{ring}
use Rattle.numbers.specs.Within.{Within}
use Rattle.vectors.specs.Agree.{agreeing, agreeing-near}
use Rattle.lists.specs.Number.{number}
use Rattle.lists.proofs.NumberLaws.{number-none}
use Rattle.ranking_votes.specs.Votes.{other}
use Rattle.ranking_votes.specs.Progress.{agrees_with}
use Rattle.ranking_votes.specs.Near.{lifted_of, place_of, Marks, AllMarked}

-- a product lies at most as high as another and their difference
apart : (p q : ℤ) → lifted_of q ≤ nat_abs (q -ℤ p) + lifted_of p
apart p q =
    let c = pos 3000000000000000000 in
    omega (arith, abs-add (q -ℤ p) (p +ℤ c), ap nat_abs (ring (p ∷ (q ∷ (c ∷ []))) (var 1 ⊖ var 0 ⊕ (var 0 ⊕ var 2)) (var 1 ⊕ var 2) tt))

turned : (p q : ℤ) → nat_abs (p -ℤ q) ≡ nat_abs (q -ℤ p)
turned p q = sym (abs-zero-sub (p -ℤ q)) ∙ ap nat_abs (ring (p ∷ (q ∷ [])) (num (pos 0) ⊖ (var 0 ⊖ var 1)) (var 1 ⊖ var 0) tt)

pub near-lifted : (p q : ℤ) (t : ℕ) → agreeing q p t ≡ true → (lifted_of q ≤ lifted_of p + t) × (lifted_of p ≤ lifted_of q + t)
near-lifted p q t e =
    let d = agreeing-near q p t e in
    (omega (arith, apart p q), omega (arith, apart q p, turned p q))

pub lifted-most : {p : ℤ} → Within 3000000000000000000 p → lifted_of p ≤ 6000000000000000000
lifted-most {p} h = omega (arith, abs-add p (pos 3000000000000000000), h.within)

-- it has no sign then
pub lifted-sign : {p : ℤ} → Within 3000000000000000000 p → T (non_neg (p +ℤ pos 3000000000000000000))
lifted-sign {p = pos n} h = tt
lifted-sign {p = negsuc n} h = rw (le-ltb 3000000000000000000 (suc n) h.within) tt

-- a table in which more is marked
pub marks-more : (a b : List ℕ) (t : ℕ) (q : ℤ) → ((k : ℕ) → get_or a k 0 ≡ 1 → get_or b k 0 ≡ 1) → Marks a t q → Marks b t q
marks-more a b t q f m = record { marked = λ p h e. f (place_of p) (m.marked p h e) }

-- where the place is not marked, nothing agrees
pub none-near : (near : List ℕ) (products : List ℤ) (count i : ℕ) (p : ℤ) (t : ℕ) → AllMarked near products t → count ≤ length products
    → Within 3000000000000000000 p
    → get_or near (place_of p) 0 ≡ 0 → number count (agrees_with products i p t) ≡ 0
none-near near products count i p t all m h z = number-none count (agrees_with products i p t)
    (λ j l. go j (omega arith) (agreeing (get_or products j (pos 0)) p t) refl)
  where
    none : {n : ℕ} → n ≡ 0 → n ≡ 1 → ⊥
    none a b = omega arith

    go : (j : ℕ) → j < length products → (b : Bool) → agreeing (get_or products j (pos 0)) p t ≡ b → agrees_with products i p t j ≡ false
    go j l true e = absurd (none z ((all.each j l).marked p h e))
    go j l false e = rw e (and-false (other j i))
