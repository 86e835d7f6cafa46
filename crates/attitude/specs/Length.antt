-- The root of d is at least 2^29 where the side is not too close: the shift is the least that brings c below 2^30, so that d keeps 29 bits. Assumes nothing.
use Rattle.std.specs.Prelude.{◌≡◌, ℕ, zero, suc, ◌+◌, ◌*◌, ◌/◌, ◌^◌, ◌≤◌, ◌<◌, max, ℤ, pos, nat_abs}
use Rattle.std.proofs.Common.{le_refl, le_trans, mul-le-mul, add-one, arith, shr-shr}
use Rattle.std.proofs.Math.Decide.{dec_le}
use Rattle.numbers.specs.Root.{root, root_is, square-root}
use Rattle.vectors.specs.declared.Vec3.{Vec3}
use Rattle.vectors.specs.Vectors.{Within3}
use Rattle.attitude.specs.Scale.{largest_of, shift_of, reduced_of}
use Rattle.attitude.specs.Side.{squares_of}
use Rattle.attitude.specs.Shift.{Shift, shift_is}
use Rattle.attitude.specs.Bounds.{largest-over}

halved : (m k : ℕ) → 2 ^ 30 ≤ m → Shift m k → 2 ^ 29 ≤ m / 2 ^ k
halved m zero h s = omega (arith, s.small)
halved m (suc j) h s = omega (arith, s.least j (le_refl (suc j)), rw add-one at (shr-shr m j 1))

reduced-long : (c : Vec3) → Within3 2000000000000000000 c → 2 ^ 30 ≤ largest_of c → 2 ^ 29 ≤ largest_of (reduced_of c)
unfolding reduced_of
reduced-long c w h =
    le_trans (halved (largest_of c) (shift_of (largest_of c)) h (shift_is (largest_of c) (omega (arith, w.x.within, w.y.within, w.z.within))))
    (largest-over c (2 ^ shift_of (largest_of c)))

square-of : (l x y z : ℕ) → l ≤ max x (max y z) → Dec (l ≤ x) → Dec (l ≤ y) → l * l ≤ x * x + y * y + z * z
square-of l x y z h (yes i) d = omega (arith, mul-le-mul i i)
square-of l x y z h (no i) (yes j) = omega (arith, mul-le-mul j j)
square-of l x y z h (no i) (no j) = let k : l ≤ z = omega arith in omega (arith, mul-le-mul k k)

-- a root of squares is no less than what is squared
root-large : (d : Vec3) (l : ℕ) → l ≤ largest_of d → l ≤ root (squares_of d)
root-large d l h = square-root (root_is _) (square-of l (nat_abs d.x) (nat_abs d.y) (nat_abs d.z) h (dec_le _ _) (dec_le _ _))

pub root-long : (c : Vec3) → Within3 2000000000000000000 c → 2 ^ 30 ≤ largest_of c → 2 ^ 29 ≤ root (squares_of (reduced_of c))
root-long c w h = root-large (reduced_of c) (2 ^ 29) (reduced-long c w h)
