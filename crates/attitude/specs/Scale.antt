-- The cross product c made smaller: over the least power of two that leaves no magnitude of 2^30 or more. Assumes nothing.
use Rattle.std.specs.Prelude.{cond, ℕ, zero, suc, ◌+◌, ◌/◌, ◌^◌, max, ltb, ℤ, pos, nat_abs}
use Rattle.std.specs.Int.Signed.{quot_z}
use Rattle.vectors.specs.declared.Vec3.{Vec3}

-- the largest magnitude of the three
abbrev pub largest_of : Vec3 → ℕ
largest_of v = max (nat_abs v.x) (max (nat_abs v.y) (nat_abs v.z))

-- each of the three over n, toward zero
abbrev pub over_of : Vec3 → ℤ → Vec3
over_of v n = record { x = quot_z v.x n; y = quot_z v.y n; z = quot_z v.z n }

-- the first of k, k + 1, .. for which m over its power of two is below 2^30, at most `tries` of them
unfoldable pub first_shift : ℕ → ℕ → ℕ → ℕ
first_shift zero k m = k
first_shift (suc tries) k m = cond (ltb (m / 2 ^ k) (2 ^ 30)) k (first_shift tries (k + 1) m)

-- the exponent of that smallest power; `Shift` has the law
unfoldable pub shift_of : ℕ → ℕ
shift_of m = first_shift 64 0 m

-- d
unfoldable pub reduced_of : Vec3 → Vec3
reduced_of c = over_of c (pos (2 ^ shift_of (largest_of c)))
