-- A word as a signed number of 64 bits: its size, with "-" in front where it is below zero. Any other word is no number. Assumes nothing.
use Rattle.std.specs.Prelude.{cond, List, [], ◌∷◌, map, ℕ, ltb, eqb, ℤ, pos, neg_ℤ}
use Rattle.std.specs.Int.Signed.{mag}
use Rattle.text.specs.Parse.{parsed_of, numbers_for as sizes_for}
use Rattle.std.specs.Prelude.{Option, Some, None}

-- a number from -2^63 to 2^63 - 1: `mag` is n both for n and for -(n + 1)
unfoldable pub fitting : ℤ → Option ℤ
fitting z = cond (ltb (mag z) 9223372036854775808) (Some z) None

-- a size, and a size behind a "-"
abbrev pub positive_of : Option ℕ → Option ℤ
positive_of (Some n) = fitting (pos n)
positive_of None = None

abbrev pub negative_of : Option ℕ → Option ℤ
negative_of (Some n) = fitting (neg_ℤ (pos n))
negative_of None = None

unfoldable pub parsed_signed_of : List ℕ → Option ℤ
parsed_signed_of [] = None
parsed_signed_of (b ∷ word) = cond (eqb b 45) (negative_of (parsed_of word)) (positive_of (parsed_of (b ∷ word)))

-- ---- as values: the number, or none

abbrev pub numbers_of : Option ℤ → List ℤ
numbers_of (Some z) = z ∷ []
numbers_of None = []

-- those from -m to m - 1
unfoldable pub held : ℕ → List ℤ → List ℤ
held m [] = []
held m (z ∷ zs) = cond (ltb (mag z) m) (z ∷ held m zs) (held m zs)

-- the size that a word spells, below zero behind a "-", where 64 bits hold it
unfoldable pub numbers_for : List ℕ → List ℤ
numbers_for [] = []
numbers_for (b ∷ word) = held 9223372036854775808 (cond (eqb b 45) (map neg_ℤ (sizes_for word)) (sizes_for (b ∷ word)))
