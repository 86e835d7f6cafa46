-- The records of the list as they are read from its bytes. Assumes nothing.
use Rattle.std.specs.Prelude.{◌≡◌, get_or}
use Rattle.std.proofs.Math.Path.{ap}
use Rattle.std.proofs.Common.{◌∙◌, not-suc-le-zero, arith}
use mathlib.Core.List.{List, [], ◌∷◌, ◌++◌, append_assoc}
use Prim.Native.Nat.{ℕ, zero, suc, ◌+◌, ◌*◌, ◌<◌}
use Rattle.std.proofs.Math.ListN.{length}
use Rattle.words.specs.Number.{number_at}
use Rattle.words.specs.Bytes.{bytes_of}
use Rattle.words.specs.BytesLaws.{bytes-length, number-front, number_behind}
use Rattle.catalogue_compare.specs.Changes.{record_of, encoded}
use Rattle.catalogue_compare.specs.Encoded.{record-length}

-- the identity of record p of a list, and what is said of it
abbrev pub identity_at : List ℕ → ℕ → ℕ
identity_at list p = number_at list (8 * p) 4

abbrev pub kind_at : List ℕ → ℕ → ℕ
kind_at list p = number_at list (8 * p + 4) 4

module _ (kind : ℕ → ℕ) where
  first-identity : (x : ℕ) (rest : List ℕ) → x < 4294967296 → identity_at (record_of x (kind x) ++ rest) 0 ≡ x
  unfolding record_of
  first-identity x rest h =
      ap (λ (l : List ℕ). number_at l 0 4) (append_assoc (bytes_of 4 x) (bytes_of 4 (kind x)) rest) ∙ number-front 4 x (bytes_of 4 (kind x) ++ rest) h

  first_kind : (x : ℕ) (rest : List ℕ) → kind x < 4294967296 → kind_at (record_of x (kind x) ++ rest) 0 ≡ kind x
  unfolding record_of
  first_kind x rest h =
      let split = append_assoc (bytes_of 4 x) (bytes_of 4 (kind x)) rest in
      let e : 4 ≡ length (bytes_of 4 x) + 0 = omega (arith, bytes-length 4 x) in
      (λ i. number_at (split i) (e i) 4) ∙ number_behind (bytes_of 4 x) (bytes_of 4 (kind x) ++ rest) 0 4 ∙ number-front 4 (kind x) rest h

  behind : (x : ℕ) (rest : List ℕ) (at to : ℕ) → to ≡ 8 + at → number_at (record_of x (kind x) ++ rest) to 4 ≡ number_at rest at 4
  behind x rest at to e =
      let d : to ≡ length (record_of x (kind x)) + at = omega (arith, record-length x (kind x)) in
      ap (λ (n : ℕ). number_at (record_of x (kind x) ++ rest) n 4) d ∙ number_behind (record_of x (kind x)) rest at 4

  pub read-identity : (xs : List ℕ) → ((p : ℕ) → p < length xs → get_or xs p 0 < 4294967296) → (p : ℕ) → p < length xs
      → identity_at (encoded kind xs) p ≡ get_or xs p 0
  unfolding encoded
  read-identity [] s p h = absurd (not-suc-le-zero h)
  read-identity (x ∷ xs) s zero h = first-identity x (encoded kind xs) (s 0 h)
  read-identity (x ∷ xs) s (suc p) h = behind x (encoded kind xs) (8 * p) (8 * suc p) (omega arith)
      ∙ read-identity xs (λ k l. s (suc k) (omega arith)) p (omega arith)

  pub read-kind : (xs : List ℕ) → ((x : ℕ) → kind x < 4294967296) → (p : ℕ) → p < length xs → kind_at (encoded kind xs) p ≡ kind (get_or xs p 0)
  unfolding encoded
  read-kind [] s p h = absurd (not-suc-le-zero h)
  read-kind (x ∷ xs) s zero h = first_kind x (encoded kind xs) (s x)
  read-kind (x ∷ xs) s (suc p) h = behind x (encoded kind xs) (8 * p + 4) (8 * suc p + 4) (omega arith) ∙ read-kind xs s p (omega arith)
