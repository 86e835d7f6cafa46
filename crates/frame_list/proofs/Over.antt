-- The first sample that is too large, as a search by position finds it. Assumes nothing.
use Rattle.std.specs.Prelude.{Bool, true, false, cond, ◌≡◌, refl, List, ℕ, ◌<◌, get_or, length, ltb, position, MatchOption, Some, None}
use Rattle.std.specs.List.{position_or_len}
use Rattle.std.proofs.Common.{arith, ltb-true, ltb-false}
use Rattle.std.proofs.lemmas.List.Sums.{position_or_len_is}
use Rattle.lists.specs.First.{First}
use Rattle.lists.proofs.First.{first-is}
use Rattle.frame_list.specs.input.Input.{first_over}

module _ (l : List ℕ) where
  over-is : First (λ k. ltb 4095 (get_or l k 0)) (length l) (first_over l)
  unfolding first_over
  over-is = first-is _ _

  place-is : position_or_len (λ s. ltb 4095 s) l ≡ first_over l
  place-is = position_or_len_is (λ s. ltb 4095 s) l (first_over l) 0 over-is.most over-is.none over-is.taken

  -- it is there, or the first is past the end
  pub position-is : MatchOption (position (λ s. ltb 4095 s) l) (first_over l ≡ length l) (λ k. (k < length l) × (k ≡ first_over l))
  position-is = rw place-is (go (ltb (first_over l) (length l)) refl)
    where
      go : (b : Bool) → ltb (first_over l) (length l) ≡ b
          → MatchOption (cond b (Some (first_over l)) None) (first_over l ≡ length l) (λ k. (k < length l) × (k ≡ first_over l))
      go true e = (ltb-true _ _ e, refl)
      go false e = omega (arith, ltb-false _ _ e, over-is.most)
