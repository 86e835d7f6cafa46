-- The keys of pairs: how large they are, and that a key tells its pair. Assumes nothing.
use Rattle.std.specs.Prelude.{ℕ, zero, suc, ◌<◌, ◌≤◌, Bool, true, false, cond, List, [], ◌∷◌, ℤ, FitsSigned, nat_le}
use Rattle.std.proofs.Common.{arith, lit<}
use Rattle.std.specs.Int.{w64}
use Rattle.numbers.specs.Within.{within-fits}
use Rattle.vectors.specs.Triples.{Listed, pair_dot}
use Rattle.vectors.specs.Laws.{pair-within}
use Rattle.catalogue_index.specs.records.FormatLaws.{Keys, keys-append}
use Rattle.catalogue_index.specs.Raised.{raised}
use Rattle.catalogue_index.specs.RaisedLaws.{raised-fits}
use Rattle.catalogue_index.specs.Index.{collected, key_of, entry_of, row_of, pairs_of}

keys-collected : (f : ℕ → List ℕ) (n : ℕ) → ((i : ℕ) → i < n → Keys (f i)) → Keys (collected n f)
unfolding collected
keys-collected f zero h = tt
keys-collected f (suc n) h = keys-append (collected n f) (f n) (keys-collected f n (λ i l. h i (omega arith))) (h n (omega arith))

module _ (stars : List ℤ) (s : Listed 512 stars) where
  pub dot-fits : (a b : ℕ) → FitsSigned w64 (pair_dot stars a b)
  dot-fits a b = within-fits w64 (pair-within s.near a b) (lit< tt)

  pub key-most : (a b : ℕ) → a < 512 → b < 512 → key_of stars a b < 79228162514264337593543950336
  unfolding key_of
  key-most a b h k = omega (arith, raised-fits (pair_dot stars a b) (dot-fits a b))

  entry-keys : (floor b a : ℕ) → a < 512 → b < 512 → Keys (entry_of stars floor b a)
  unfolding entry_of
  entry-keys floor b a h k = go (nat_le floor (raised (pair_dot stars a b))) (key-most a b h k)
    where
      go : (t : Bool) → key_of stars a b < 79228162514264337593543950336 → Keys (cond t (key_of stars a b ∷ []) [])
      go true l = (l, tt)
      go false l = tt

  pub pairs-keys : (floor n : ℕ) → n ≤ 512 → Keys (pairs_of stars floor n)
  unfolding pairs_of row_of
  pairs-keys floor n h = keys-collected (row_of stars floor) n (λ b l. keys-collected (entry_of stars floor b) b
      (λ a m. entry-keys floor b a (omega arith) (omega arith)))
