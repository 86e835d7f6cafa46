-- A test of a list's first elements is the same test of the numbers of their places. Assumes nothing.
use Rattle.std.specs.Prelude.{Bool, true, false, not, ◌&&◌, ◌||◌, ◌≡◌, refl, List, ℕ, zero, suc, ◌≤◌, length, get_or, take}
use Rattle.std.specs.List.{list_all, list_any}
use Rattle.std.proofs.Common.{ap, ◌∙◌, add-one, arith}
use Rattle.std.proofs.lemmas.List.Folds.{list_all_more, list_any_more}
use Rattle.lists.specs.Tests.{all}

module _ {A : Type 0} (test : A → Bool) (xs : List A) (d : A) where
  -- that all pass
  pub all-listed : (n : ℕ) → n ≤ length xs → list_all test (take n xs) ≡ all n (λ k. test (get_or xs k d))
  unfolding all
  all-listed zero h = refl
  all-listed (suc n) h =
      (rw add-one at (list_all_more test xs n d (omega arith)))
      ∙ ap (λ (t : Bool). t && test (get_or xs n d)) (all-listed n (omega arith))

  -- that none does
  not-or : (a b : Bool) → not (a || b) ≡ (not a && not b)
  not-or true b = refl
  not-or false b = refl

  pub none-listed : (n : ℕ) → n ≤ length xs → not (list_any test (take n xs)) ≡ all n (λ k. not (test (get_or xs k d)))
  unfolding all
  none-listed zero h = refl
  none-listed (suc n) h =
      ap not (rw add-one at (list_any_more test xs n d (omega arith)))
      ∙ not-or (list_any test (take n xs)) (test (get_or xs n d))
      ∙ ap (λ (t : Bool). t && not (test (get_or xs n d))) (none-listed n (omega arith))
