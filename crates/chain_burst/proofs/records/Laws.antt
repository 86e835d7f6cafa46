-- A record's bytes are 80, and what is read from them is what was written. Assumes nothing.
use Rattle.std.specs.Prelude.{◌≡◌, List, [], ◌∷◌, ◌++◌, ℕ, zero, suc, ◌+◌, ◌*◌, ◌<◌, ℤ, pos, length, get_or}
use Rattle.std.proofs.Common.{sym, ◌∙◌, not-suc-le-zero}
use Rattle.std.proofs.Math.Path.{ap}
use native.Mathlib.Omega.{arith}
use mir.Syntax.{w64}
use mir.Val.{to_z, of_z}
use mir.ValLaws.{to_z-of_z, of_z_fits}
use Rattle.words.specs.Number.{number_at}
use Rattle.words.specs.Bytes.{bytes_of}
use Rattle.words.specs.BytesLaws.{bytes-length, number-front, number_behind}
use Rattle.attitude.specs.Attitude.{entries_of}
use Rattle.chain_burst.specs.records.Record.{Record, signed_bytes, encoded, entry_in, decoded, AllSigned, Holds}

-- a number behind n bytes
behind : (n v : ℕ) (rest : List ℕ) (at m : ℕ) → number_at (bytes_of n v ++ rest) (n + at) m ≡ number_at rest at m
behind n v rest at m = ap (λ (k : ℕ). number_at (bytes_of n v ++ rest) (k + at) m) (sym (bytes-length n v)) ∙ number_behind (bytes_of n v) rest at m

-- number j of a run of signed numbers
signed-at : (zs : List ℤ) (j : ℕ) → AllSigned zs → j < length zs → to_z w64 (number_at (signed_bytes zs) (8 * j) 8) ≡ get_or zs j (pos 0)
unfolding signed_bytes AllSigned
signed-at [] j s h = absurd (not-suc-le-zero h)
signed-at (z ∷ zs) zero s h = ap (to_z w64) (number-front 8 (of_z w64 z) (signed_bytes zs) (of_z_fits w64 z s.0).fits) ∙ to_z-of_z w64 z s.0
signed-at (z ∷ zs) (suc j) s h =
    let e : 8 * suc j ≡ 8 + 8 * j = omega arith in
    ap (λ (k : ℕ). to_z w64 (number_at (bytes_of 8 (of_z w64 z) ++ signed_bytes zs) k 8)) e
    ∙ ap (to_z w64) (behind 8 (of_z w64 z) (signed_bytes zs) (8 * j) 8)
    ∙ signed-at zs j s.1 (omega arith)

module _ (r : Record) (h : Holds r) where
  number_read : number_at (encoded r) 0 4 ≡ r.number
  unfolding encoded
  number_read = number-front 4 r.number _ h.number

  place_read : number_at (encoded r) 4 4 ≡ r.place
  unfolding encoded
  place_read = behind 4 r.number _ 0 4 ∙ number-front 4 r.place _ h.place

  entry_read : (j : ℕ) → j < 9 → entry_in (encoded r) j ≡ get_or (entries_of r.matrix) j (pos 0)
  unfolding encoded entry_in
  entry_read j l =
      let es = signed_bytes (entries_of r.matrix) in
      let e : 8 + 8 * j ≡ 4 + (4 + 8 * j) = omega arith in
      ap (λ (k : ℕ). to_z w64 (number_at (encoded r) k 8)) e
      ∙ ap (to_z w64) (behind 4 r.number (bytes_of 4 r.place ++ es) (4 + 8 * j) 8 ∙ behind 4 r.place es (8 * j) 8)
      ∙ signed-at (entries_of r.matrix) j h.entries l

  -- decoding a record gives back number, place and matrix
  pub decoded-encoded : decoded (encoded r) ≡ r
  decoded-encoded =
      λ i. record {
        number = number_read i;
        place = place_read i;
        matrix = record {
          row0 = record { x = entry_read 0 (omega arith) i; y = entry_read 1 (omega arith) i; z = entry_read 2 (omega arith) i };
          row1 = record { x = entry_read 3 (omega arith) i; y = entry_read 4 (omega arith) i; z = entry_read 5 (omega arith) i };
          row2 = record { x = entry_read 6 (omega arith) i; y = entry_read 7 (omega arith) i; z = entry_read 8 (omega arith) i };
        };
      }
