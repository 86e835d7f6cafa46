-- The last four bytes of a word as a signed number: n, and from 2^31 on n - 2^32. Assumes nothing.
use Rattle.std.specs.Prelude.{cond, ltb, ℕ, ◌-◌, ◌%◌, ℤ, pos, negsuc}

abbrev pub signed_half : ℕ → ℤ
signed_half n = cond (ltb (n % 4294967296) 2147483648) (pos (n % 4294967296)) (negsuc (4294967295 - n % 4294967296))
