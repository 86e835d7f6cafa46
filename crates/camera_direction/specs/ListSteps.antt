-- The test of a list's numbers, one number at a time: what the numbers from place k on come to. Assumes nothing.
use Rattle.std.specs.Prelude.{Bool, true, false, ◌&&◌, ◌≡◌, refl, List, [], ◌∷◌, ℕ, ◌+◌, ◌≤◌, ◌<◌, leb, ℤ, pos, nat_abs, length, get_or, drop}
use Rattle.std.specs.List.{list_all}
use Rattle.std.proofs.Common.{ap, add-one}
use Rattle.std.proofs.Math.ListN.{drop_of_length-le}
use Rattle.std.proofs.Math.Seq.{drop-cons}
use Rattle.camera_direction.specs.List.{all_within}

module _ (b : ℕ) (v : List ℤ) (k : ℕ) where
  pub all_end : length v ≤ k → all_within b (drop k v) ≡ true
  unfolding all_within
  all_end h = rw drop_of_length-le

  pub all-stop : k < length v → leb (nat_abs (get_or v k (pos 0))) b ≡ false → all_within b (drop k v) ≡ false
  unfolding all_within
  all-stop h e = rw (drop-cons v k (pos 0), e)

  pub all-on : k < length v → leb (nat_abs (get_or v k (pos 0))) b ≡ true → all_within b (drop k v) ≡ all_within b (drop (k + 1) v)
  unfolding all_within
  all-on h e = rw (add-one, drop-cons v k (pos 0), e)

-- that each number passes the test, as the iterator's `all` tells it
pub listed_within : (b : ℕ) (v : List ℤ) → list_all (λ x. leb (nat_abs x) b) v ≡ all_within b v
unfolding all_within
listed_within b [] = refl
listed_within b (x ∷ xs) = ap (λ (t : Bool). leb (nat_abs x) b && t) (listed_within b xs)
