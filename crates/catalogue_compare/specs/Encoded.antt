-- How long the list is, and how its bytes are put together. Assumes nothing.
use Rattle.std.specs.Prelude.{◌≡◌, ℕ, ◌*◌, length}
use Rattle.std.proofs.Math.Path.{refl}
use mathlib.Core.List.{List, [], ◌∷◌, ◌++◌, append_assoc}
use Rattle.std.proofs.Common.{arith}
use Rattle.std.proofs.Math.ListN.{length-append}
use Rattle.words.specs.Bytes.{bytes_of}
use Rattle.words.specs.BytesLaws.{bytes-length}
use Rattle.catalogue_compare.specs.Changes.{kind_of, listed, record_of, encoded, changes_of}

pub record-length : (identity kind : ℕ) → length (record_of identity kind) ≡ 8
unfolding record_of
record-length identity kind =
    omega (arith, length-append (bytes_of 4 identity) (bytes_of 4 kind), bytes-length 4 identity, bytes-length 4 kind)

module _ (kind : ℕ → ℕ) where
  pub encoded-length : (xs : List ℕ) → length (encoded kind xs) ≡ 8 * length xs
  unfolding encoded
  encoded-length [] = refl
  encoded-length (x ∷ xs) = omega (arith, length-append (record_of x (kind x)) (encoded kind xs), record-length x (kind x), encoded-length xs)

  pub encoded-append : (xs ys : List ℕ) → encoded kind (xs ++ ys) ≡ encoded kind xs ++ encoded kind ys
  unfolding encoded
  encoded-append [] ys = refl
  encoded-append (x ∷ xs) ys = rw (encoded-append xs ys, append_assoc)

-- eight bytes a record
pub changes-length : (first second : List ℕ) → length (changes_of first second) ≡ 8 * length (listed first second)
unfolding changes_of
changes-length first second = encoded-length (kind_of first second) (listed first second)
