-- A number in decimal: its digits as ASCII bytes, the highest first. Assumes nothing.
use Rattle.std.specs.Prelude.{cond, List, [], ◌∷◌, ◌++◌, ℕ, zero, suc, ◌+◌, ◌/◌, ◌%◌, ltb, ℤ, pos, nat_abs}
use Prim.Native.String.{String}
use Rattle.std.specs.Int.Signed.{lt_z}
use Rattle.text.specs.Ascii.{ascii}

abbrev pub digit : ℕ → ℕ
digit d = 48 + d

-- a number below ten is its digit; another is the decimal of its tenth, and its last digit behind that. The first argument bounds how often a tenth is
-- taken, and no number has more tenths than itself.
unfoldable pub spelled : ℕ → ℕ → List ℕ
spelled zero n = digit n ∷ []
spelled (suc most) n = cond (ltb n 10) (digit n ∷ []) (spelled most (n / 10) ++ (digit (n % 10) ∷ []))

unfoldable pub decimal : ℕ → List ℕ
decimal n = spelled n n

-- "-" before the size of a number below zero
unfoldable pub signed_decimal : ℤ → List ℕ
signed_decimal z = cond (lt_z z (pos 0)) (ascii "-" ++ decimal (nat_abs z)) (decimal (nat_abs z))

-- a word and the number behind it
abbrev pub labelled : String → ℕ → List ℕ
labelled label n = ascii label ++ decimal n
