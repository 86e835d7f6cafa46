-- The catalogue's format: a record has five words of 4 bytes, high byte first: the identity, which has no sign, and x, y, z and the magnitude, which have
-- one. Nothing stands before the first record.
-- Assumes nothing.
use Rattle.std.specs.Prelude.{cond, List, ℕ, ◌+◌, ◌*◌, ◌/◌, ltb, ℤ, pos, ◌-ℤ◌, length}
use Rattle.words.specs.Number.{number_at}

-- how many bytes a record has
abbrev pub record_size : ℕ
record_size = 20

-- and how many records a catalogue may have
abbrev pub most_records : ℕ
most_records = 512

-- how many whole records there are
abbrev pub records_in : List ℕ → ℕ
records_in bytes = length bytes / record_size

-- a word read as a signed number: from 2^31 on it stands for the number that is 2^32 below it
unfoldable pub signed_of : ℕ → ℤ
signed_of w = cond (ltb w 2147483648) (pos w) (pos w -ℤ pos 4294967296)

-- the identity of record i
unfoldable pub identity_of : List ℕ → ℕ → ℕ
identity_of bytes i = number_at bytes (record_size * i) 4

-- its component 0, 1 or 2: x, y or z
unfoldable pub component_of : List ℕ → ℕ → ℕ → ℤ
component_of bytes i axis = signed_of (number_at bytes (record_size * i + (4 + 4 * axis)) 4)

-- its magnitude in thousandths: the word after z
unfoldable pub magnitude_of : List ℕ → ℕ → ℤ
magnitude_of bytes i = signed_of (number_at bytes (record_size * i + 16) 4)
