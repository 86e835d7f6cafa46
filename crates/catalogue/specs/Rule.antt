-- The rule of a record: its identity is above that of the record before, no component is larger than 10^9 in size, the sum of their squares is at most
-- 4 x 10^9 away from 10^18, and its magnitude lies from -2,000 to 12,000.
-- Assumes nothing.
use Rattle.std.specs.Prelude.{Bool, true, ◌&&◌, List, ℕ, zero, suc, leb, ltb, ℤ, pos, negsuc, nat_abs, ◌+ℤ◌, ◌-ℤ◌, ◌*ℤ◌}
use Rattle.std.specs.Int.Signed.{le_z}
use Rattle.catalogue.specs.Format.{identity_of, component_of, magnitude_of}

-- how far from 0 a component may lie
abbrev pub largest : ℕ
largest = 1000000000

-- what the sum of the squares is to be
abbrev pub square_sum : ℕ
square_sum = 1000000000000000000

-- and how far from that it may lie
abbrev pub slack : ℕ
slack = 4000000000

abbrev pub in_range : ℤ → Bool
in_range z = leb (nat_abs z) largest

abbrev pub squares : ℤ → ℤ → ℤ → ℤ
squares x y z = x *ℤ x +ℤ y *ℤ y +ℤ z *ℤ z

abbrev pub norm_ok : ℤ → ℤ → ℤ → Bool
norm_ok x y z = leb (nat_abs (squares x y z -ℤ pos square_sum)) slack

unfoldable pub direction_ok : ℤ → ℤ → ℤ → Bool
direction_ok x y z = in_range x && in_range y && in_range z && norm_ok x y z

-- the magnitude of the brightest star that there may be, and of the faintest: -2,000 and 12,000
abbrev pub brightest : ℤ
brightest = negsuc 1999

abbrev pub faintest : ℤ
faintest = pos 12000

unfoldable pub magnitude_ok : ℤ → Bool
magnitude_ok m = le_z brightest m && le_z m faintest

-- what a record has to keep by itself
abbrev pub star_ok : List ℕ → ℕ → Bool
star_ok bytes i = direction_ok (component_of bytes i 0) (component_of bytes i 1) (component_of bytes i 2) && magnitude_ok (magnitude_of bytes i)

-- the identity is judged against the record before; the first has none before it
unfoldable pub identity_rises : List ℕ → ℕ → Bool
identity_rises bytes zero = true
identity_rises bytes (suc i) = ltb (identity_of bytes i) (identity_of bytes (suc i))

unfoldable pub record_ok : List ℕ → ℕ → Bool
record_ok bytes i = star_ok bytes i && identity_rises bytes i
