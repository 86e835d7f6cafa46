-- The step that is taken is the one of the definitions, by which of the next identities there are and how they compare. Assumes nothing.
use Rattle.std.specs.Option.{is_some}
use Rattle.std.specs.Prelude.{Bool, true, false, ◌≡◌, List, ℕ, ◌+◌, ◌<◌, Option, Some, None, MatchOption}
use Rattle.std.proofs.Common.{sym, subst, ◌∙◌, arith, refl, ◌≤◌}
use Rattle.std.proofs.Math.Decide.{dec_lt}
use denote.Enum.Declared.{tag_of}
use Rattle.catalogue_compare.specs.contracts.step.Change.{the_type}
use Rattle.catalogue_compare.specs.declared.step.Change.{Change}
use Rattle.catalogue_compare.specs.declared.step.Change.TheVariants.{Removed, Added, Changed}
use Rattle.catalogue_compare.specs.Taken.{kind_number}
use Rattle.catalogue_compare.specs.Changes.{both_kind}
use Rattle.catalogue_compare.specs.Step.{next_of, step_of}
use Rattle.catalogue_compare.specs.StepLaws.{step-first, step-second, step_both}

pub when_none : (A : Type 0) (B : ℕ → Type 0) {o : Option ℕ} → MatchOption o A B → o ≡ None → A
when_none A B m e = subst (λ (p : Option ℕ). MatchOption p A B) e m

pub when_some : (A : Type 0) (B : ℕ → Type 0) {o : Option ℕ} {x : ℕ} → MatchOption o A B → o ≡ Some x → B x
when_some A B m e = subst (λ (p : Option ℕ). MatchOption p A B) e m

-- where one of the two has a record left, both have more than were passed
pub more-left : {i j m n : ℕ} → i ≤ m → j ≤ n → (m ≤ i → j < n) → i + j < m + n
more-left {i} {j} {m} {n} a b h = go (dec_lt i m)
  where
    go : Dec (i < m) → i + j < m + n
    go (yes l) = omega arith
    go (no l) = omega (arith, h (omega arith))

-- ---- the number of a change

pub tag-number : (change : Change) → tag_of the_type change + 1 ≡ kind_number (Some change)
tag-number Removed = refl
tag-number Added = refl
tag-number Changed = refl

pub tag-some : (change : Change) → kind_number (Some change) ≡ 0 → ⊥
tag-some Removed e = absurd (omega arith)
tag-some Added e = absurd (omega arith)
tag-some Changed e = absurd (omega arith)

pub some-number : (change : Option Change) {t : Bool} → t ≡ is_some change → t ≡ true → kind_number change ≡ 0 → ⊥
some-number None e h = absurd (cc)
some-number (Some c) e h = tag-some c

pub none-number : (change : Option Change) {t : Bool} → t ≡ is_some change → t ≡ false → kind_number change ≡ 0
none-number None e h = refl
none-number (Some c) e h = absurd (cc)

pub number-most : (change : Option Change) → kind_number change < 4294967296
number-most None = omega arith
number-most (Some Removed) = omega arith
number-most (Some Added) = omega arith
number-most (Some Changed) = omega arith

-- ---- by the next identities

module _ (first second : List ℕ) (i j : ℕ) {one other : ℕ} (a : one ≡ next_of first i) (b : other ≡ next_of second j) where
  pub first-step : one < other → record { identity = one; kind = 1; first = i + 1; second = j } ≡ step_of first second i j
  first-step l = (λ k. record { identity = a k; kind = 1; first = i + 1; second = j }) ∙ sym (step-first first second i j (omega arith))

  pub second-step : other < one → record { identity = other; kind = 2; first = i; second = j + 1 } ≡ step_of first second i j
  second-step l = (λ k. record { identity = b k; kind = 2; first = i; second = j + 1 }) ∙ sym (step-second first second i j (omega arith))

  pub both-step : {kind : ℕ} → one ≡ other → kind ≡ both_kind first i second j → record { identity = one; kind = kind; first = i + 1; second = j + 1 }
      ≡ step_of first second i j
  both-step e f = (λ k. record { identity = a k; kind = f k; first = i + 1; second = j + 1 }) ∙ sym (step_both first second i j (omega arith))
