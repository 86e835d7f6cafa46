-- One record of a burst, 80 bytes, high byte first: number and place of the refusal, 4 bytes each and without a sign, and the nine entries of the
-- matrix by rows, 8 bytes each and with a sign. Assumes nothing.
use Rattle.std.specs.Prelude.{List, [], ◌∷◌, ◌++◌, ℕ, ◌+◌, ◌*◌, ◌<◌, ℤ, pos}
use Rattle.std.specs.Int.{w64}
use Rattle.std.proofs.Common.{SFits, to_z, of_z}
use Rattle.words.specs.Number.{number_at}
use Rattle.words.specs.Bytes.{bytes_of}
use Rattle.vectors.specs.declared.Vec3.{Vec3}
use Rattle.attitude.specs.declared.Matrix.{Matrix}
use Rattle.attitude.specs.Attitude.{entries_of}
use Rattle.std.specs.Prelude.{Result, Ok, Err}
use Rattle.refusal.specs.declared.Refusal.{Refusal}

-- how many bytes a record has
abbrev pub record_size : ℕ
record_size = 80

-- ---- what a record says

pub record Record : Type 0 where
  pub number : ℕ
  pub place : ℕ
  pub matrix : Matrix

abbrev pub record3 : ℕ → ℕ → Matrix → Record
record3 n p m = record { number = n; place = p; matrix = m }

abbrev zeros : Vec3
zeros = record { x = pos 0; y = pos 0; z = pos 0 }

abbrev pub no_matrix : Matrix
no_matrix = record { row0 = zeros; row1 = zeros; row2 = zeros }

-- 0 and 0 and the matrix where the call is accepted; number and place and zeros where it is refused
abbrev pub record_of : Result Unit Refusal → Matrix → Record
record_of (Ok _) m = record3 0 0 m
record_of (Err r) m = record3 r.number r.place no_matrix

-- ---- its bytes

-- numbers with a sign, 8 bytes each: the low half of the words for those from 0 on, the high half for those below, -1 the highest
unfoldable pub signed_bytes : List ℤ → List ℕ
signed_bytes [] = []
signed_bytes (z ∷ zs) = bytes_of 8 (of_z w64 z) ++ signed_bytes zs

unfoldable pub encoded : Record → List ℕ
encoded r = bytes_of 4 r.number ++ (bytes_of 4 r.place ++ signed_bytes (entries_of r.matrix))

-- ---- how they are read

-- entry 0 to 8
unfoldable pub entry_in : List ℕ → ℕ → ℤ
entry_in bytes j = to_z w64 (number_at bytes (8 + 8 * j) 8)

abbrev pub decoded : List ℕ → Record
decoded bytes =
    record {
      number = number_at bytes 0 4;
      place = number_at bytes 4 4;
      matrix = record {
        row0 = record { x = entry_in bytes 0; y = entry_in bytes 1; z = entry_in bytes 2 };
        row1 = record { x = entry_in bytes 3; y = entry_in bytes 4; z = entry_in bytes 5 };
        row2 = record { x = entry_in bytes 6; y = entry_in bytes 7; z = entry_in bytes 8 };
      };
    }

-- ---- what a record can hold

-- each of some numbers is one of 64 bits with a sign
unfoldable pub AllSigned : List ℤ → Type 0
AllSigned [] = Unit
AllSigned (z ∷ zs) = SFits w64 z × AllSigned zs

pub record Holds (r : Record) : Type 0 where
  pub number : r.number < 4294967296
  pub place : r.place < 4294967296
  pub entries : AllSigned (entries_of r.matrix)
