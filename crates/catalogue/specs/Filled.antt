-- An array of zeros that takes the numbers of a list one after the other. Assumes nothing.
use Rattle.std.specs.Prelude.{◌≡◌, List, ◌++◌, ℤ, pos, take, set}
use Rattle.std.proofs.Math.Path.{refl, sym}
use Rattle.std.proofs.Common.{◌∙◌}
use Prim.Native.Nat.{ℕ, suc, ◌+◌, ◌-◌, ◌<◌}
use Rattle.std.proofs.Math.Numerals.{add-one}
use native.Mathlib.Omega.{arith}
use Rattle.std.proofs.Math.ListN.{length, get_or, replicate}
use Rattle.std.proofs.Math.Seq.{take-suc, take-length, take_at, length-take-le, append_snoc}
use Rattle.std.proofs.lemmas.List.{set_at}
use Rattle.catalogue.specs.Stars.{padded}

-- the first k numbers of the list, and zeros behind them
pub filled : List ℤ → ℕ → List ℤ
filled list k = take k list ++ replicate (1536 - k) (pos 0)

module _ (list : List ℤ) where
  pub filled_none : replicate 1536 (pos 0) ≡ filled list 0
  unfolding filled
  filled_none = refl

  pub filled_next : (k : ℕ) → k < length list → k < 1536 → set (filled list k) k (get_or list k (pos 0)) ≡ filled list (k + 1)
  unfolding filled
  filled_next k h l =
      let x = get_or list k (pos 0) in
      let zeros = replicate (1536 - suc k) (pos 0) in
      let e : 1536 - k ≡ suc (1536 - suc k) = omega arith in
      let a : length (take k list) ≡ k = length-take-le k list (omega arith) in
      rw (e, add-one, take-suc list k (pos 0)) (set_at (take k list) (pos 0) zeros x k a ∙ sym (append_snoc (take k list) x zeros))

  pub filled-all : (k : ℕ) → k ≡ length list → filled list k ≡ padded list
  unfolding filled padded
  filled-all k e = rw (e, take-length)

  -- the numbers before its end are the list
  pub padded-front : (k : ℕ) → length list ≡ k → take k (padded list) ≡ list
  unfolding padded
  padded-front k e = take_at list _ k e
