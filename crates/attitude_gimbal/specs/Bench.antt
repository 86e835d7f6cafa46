-- Cases with numbers: the matrix of case I gives ones and zeros, that of case J a minus one, no zero is negative; and targets that show the order of the sums,
-- each rounding, and floats that are no common numbers. Assumes nothing.
use Rattle.std.specs.Prelude.{◌≡◌, refl, true, false, pos, negsuc, Float}
use Rattle.std.specs.Float.{nan, inf, fin, binary64}
use Rattle.std.specs.Float.Ieee.{to_bits, of_int, round, add, mul, div}
use Rattle.refusal.specs.Table.{first_applying}
use Rattle.vectors.specs.declared.Vec3.{Vec3}
use Rattle.attitude.specs.declared.Matrix.{Matrix}
use Rattle.attitude.specs.Bench.{right, down, up, out}
use Rattle.attitude_gimbal.specs.declared.Triple.{Triple}
use Rattle.attitude_gimbal.specs.declared.Cosines.{Cosines}
use Rattle.attitude_gimbal.specs.Cosines.{cosine_of, gimbal_of}
use Rattle.attitude_gimbal.specs.Target.{along_of, turned_of}
use Rattle.attitude_gimbal.specs.Laws.{refused}
use Rattle.std.specs.Prelude.{Ok}

-- ---- one, minus one and zero, and their bits: zero is the one without a sign

abbrev pub one : Float
one = fin false 1 (pos 0)

abbrev pub minus_one : Float
minus_one = fin true 1 (pos 0)

abbrev pub nought : Float
nought = fin false 0 (pos 0)

abbrev minus_nought : Float
minus_nought = fin true 0 (pos 0)

pub one-bits : to_bits binary64 one ≡ 0x3ff0_0000_0000_0000
unfolding to_bits
one-bits = refl

pub minus-one-bits : to_bits binary64 minus_one ≡ 0xbff0_0000_0000_0000
unfolding to_bits
minus-one-bits = refl

pub nought-bits : to_bits binary64 nought ≡ 0
unfolding to_bits
nought-bits = refl

abbrev pub triple : Float → Float → Float → Triple
triple a b c = record { x = a; y = b; z = c }

-- ---- the matrices of cases I and J

abbrev pub identity : Cosines
identity = record { row0 = triple one nought nought; row1 = triple nought one nought; row2 = triple nought nought one }

abbrev pub quarter_turn : Cosines
quarter_turn = record { row0 = triple nought minus_one nought; row1 = triple one nought nought; row2 = triple nought nought one }

pub case-I : gimbal_of (record { row0 = right; row1 = down; row2 = out }) ≡ Ok identity
unfolding gimbal_of first_applying cosine_of div of_int round
case-I = refl

pub case-J : gimbal_of (record { row0 = up; row1 = right; row2 = out }) ≡ Ok quarter_turn
unfolding gimbal_of first_applying cosine_of div of_int round
case-J = refl

-- ---- the ends of the range: 8 * 10^9 either way is taken, one more is not

abbrev across : Vec3 → Matrix
across v = record { row0 = right; row1 = v; row2 = out }

pub ends-taken :
    gimbal_of (across (record { x = pos 8000000000; y = negsuc 7999999999; z = pos 0 })) ≡
    Ok (record { row0 = triple one nought nought; row1 = triple (fin false 1 (pos 3)) (fin true 1 (pos 3)) nought; row2 = triple nought nought one })
unfolding gimbal_of first_applying cosine_of div of_int round
ends-taken = refl

pub one-more-refused : gimbal_of (across (record { x = pos 0; y = pos 0; z = pos 8000000001 })) ≡ refused
unfolding gimbal_of first_applying
one-more-refused = refl

pub one-less-refused : gimbal_of (across (record { x = pos 0; y = negsuc 8000000000; z = pos 0 })) ≡ refused
unfolding gimbal_of first_applying
one-less-refused = refl

-- ---- targets

-- from left to right 2^53 + 1 + 1 stays 2^53, each sum being a tie that goes to the even float; from right to left it is 2^53 + 2
pub left-to-right : along_of (triple one one one) (triple (fin false 1 (pos 53)) one one) ≡ fin false 1 (pos 53)
unfolding add mul round
left-to-right = refl

-- a product is rounded before it is added: (1 + 2^-27)^2 is 1 + 2^-26 + 2^-54 and loses its last digit, so that nothing is left over 1 + 2^-26
abbrev longer : Float
longer = fin false 134217729 (negsuc 26)

pub product-rounded : along_of (triple longer minus_one nought) (triple longer (fin false 67108865 (negsuc 25)) one) ≡ nought
unfolding add mul round
product-rounded = refl

-- half of the smallest float is a tie that goes to 0, three quarters of it are nearer to the float itself
abbrev smallest : Float
smallest = fin false 1 (negsuc 1073)

pub subnormal : turned_of identity (triple smallest nought nought) ≡ triple smallest nought nought
unfolding add mul round
subnormal = refl

pub half-of-smallest : along_of (triple (fin false 1 (negsuc 0)) nought nought) (triple smallest one one) ≡ nought
unfolding add mul round
half-of-smallest = refl

pub most-of-smallest : along_of (triple (fin false 3 (negsuc 1)) nought nought) (triple smallest one one) ≡ smallest
unfolding add mul round
most-of-smallest = refl

-- a sum of zeros is -0 where each product is, and 0 otherwise
pub all-negative : turned_of identity (triple minus_nought minus_nought minus_nought) ≡ triple minus_nought minus_nought minus_nought
unfolding add mul round
all-negative = refl

pub one-negative : along_of (triple nought minus_one nought) (triple nought nought nought) ≡ nought
unfolding add mul round
one-negative = refl

-- an infinite component: 1 times it is infinite, and 0 times it is not a number
pub infinite : turned_of identity (triple (inf false) one one) ≡ triple (inf false) nan nan
unfolding add mul round
infinite = refl

-- the largest float twice is infinite
pub too_large : along_of (triple one one nought) (triple (fin false 9007199254740991 (pos 971)) (fin false 9007199254740991 (pos 971)) one) ≡ inf false
unfolding add mul round
too_large = refl
