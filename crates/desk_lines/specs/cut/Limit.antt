-- The limit as a word: a signed number of 32 bits. Any other word is no number. Assumes nothing.
use Rattle.std.specs.Prelude.{cond, List, [], ◌∷◌, ℕ, ltb, ℤ}
use Rattle.std.specs.Int.Signed.{mag}
use Rattle.text.specs.Sign.{parsed_signed_of, held, numbers_for as signed_for}
use Rattle.std.specs.Prelude.{Option, Some, None}

-- a number from -2^31 to 2^31 - 1: `mag` is n both for n and for -(n + 1)
unfoldable pub limit_for : ℤ → Option ℤ
limit_for z = cond (ltb (mag z) 2147483648) (Some z) None

abbrev pub narrowed : Option ℤ → Option ℤ
narrowed (Some z) = limit_for z
narrowed None = None

abbrev pub limit_of : List ℕ → Option ℤ
limit_of word = narrowed (parsed_signed_of word)

-- ---- as values: the number, or none

abbrev pub numbers_of : Option ℤ → List ℤ
numbers_of (Some z) = z ∷ []
numbers_of None = []

-- the signed number that a word spells, where 32 bits hold it
abbrev pub numbers_for : List ℕ → List ℤ
numbers_for word = held 2147483648 (signed_for word)
