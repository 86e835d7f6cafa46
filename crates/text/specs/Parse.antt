-- A word as a number: digits only, at least one, with a value of 64 bits. Any other word is no number. Assumes nothing.
use Rattle.std.specs.Prelude.{Bool, true, cond, ◌&&◌, List, [], ◌∷◌, ℕ, ◌+◌, ◌-◌, ◌*◌, ltb, leb, ℤ, pos, length}
use Rattle.std.specs.Prelude.{Option, Some, None}

-- "0" to "9"
unfoldable pub is_digit : ℕ → Bool
is_digit b = leb 48 b && leb b 57

unfoldable pub all_digits : List ℕ → Bool
all_digits [] = true
all_digits (b ∷ bytes) = is_digit b && all_digits bytes

-- the value of digits that stand behind those of a value
unfoldable pub value_from : ℕ → List ℕ → ℕ
value_from v [] = v
value_from v (b ∷ bytes) = value_from (10 * v + (b - 48)) bytes

abbrev pub value_of : List ℕ → ℕ
value_of bytes = value_from 0 bytes

-- the value with more digits behind it, where they are digits and 64 bits hold it
unfoldable pub parsed_from : ℕ → List ℕ → Option ℕ
parsed_from v bytes =
    cond (all_digits bytes && ltb (value_from v bytes) 18446744073709551616) (Some (value_from v bytes)) None

unfoldable pub parsed_of : List ℕ → Option ℕ
parsed_of word = cond (ltb 0 (length word)) (parsed_from 0 word) None

-- ---- as values: the number, or none; the papers have no number for a word that is none

abbrev pub numbers_of : Option ℕ → List ℤ
numbers_of (Some n) = pos n ∷ []
numbers_of None = []

-- at least one digit, digits only, and a value of 64 bits
abbrev pub spells : List ℕ → Bool
spells word = ltb 0 (length word) && (all_digits word && ltb (value_of word) 18446744073709551616)

abbrev pub numbers_for : List ℕ → List ℤ
numbers_for word = cond (spells word) (pos (value_of word) ∷ []) []
