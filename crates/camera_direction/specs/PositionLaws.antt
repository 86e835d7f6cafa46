-- What N is, and how large N and a direction are: N is at least 256 times each offset, so that a direction stays within ±10^9. Assumes nothing.
use Rattle.std.specs.Prelude.{◌≡◌, ℕ, ◌+◌, ◌*◌, ◌≤◌, ℤ, nat_abs}
use Rattle.std.proofs.Common.{sym, mul-le-mul, le_trans, arith}
use Rattle.std.proofs.Math.Decide.{dec_le}
use Rattle.numbers.specs.Within.{Within}
use Rattle.numbers.specs.Root.{Root, root, root_is, root-of, square-root}
use Rattle.camera_direction.specs.Position.{square, norm_of}

-- N by its own squares: whatever number has them is N
pub norm-by : (x y f : ℤ) {n : ℕ} → Root (65536 * (square x + square y + square f)) n → norm_of x y f ≡ n
unfolding norm_of
norm-by x y f h = sym (root-of h)

-- the root of 65,536 times a sum is at least 256 times what has its square in the sum
covers : (a s : ℕ) → a * a ≤ s → 256 * a ≤ root (65536 * s)
covers a s h = square-root (root_is (65536 * s)) (omega arith)

module _ (x y f : ℤ) where
  pub covers-x : 256 * nat_abs x ≤ norm_of x y f
  unfolding norm_of
  covers-x = covers (nat_abs x) (square x + square y + square f) (omega arith)

  pub covers-y : 256 * nat_abs y ≤ norm_of x y f
  unfolding norm_of
  covers-y = covers (nat_abs y) (square x + square y + square f) (omega arith)

  pub covers-f : 256 * nat_abs f ≤ norm_of x y f
  unfolding norm_of
  covers-f = covers (nat_abs f) (square x + square y + square f) (omega arith)

-- ---- a direction's numbers

-- ---- N fits

square_le : {a b : ℕ} → a ≤ b → a * a ≤ b * b
square_le h = mul-le-mul h h

root-small : (r : ℕ) → r * r ≤ 1188879967241371648 → Dec (r ≤ 4294967296) → r ≤ 4294967296
root-small r h (yes k) = k
root-small r h (no k) = let l : 4294967297 ≤ r = omega arith in omega (arith, square_le l)

module _ (x y f : ℤ) (p : Within 523776 x) (q : Within 523776 y) (r : Within 4194304 f) where
  pub x-small : square x ≤ 274341298176
  x-small = square_le p.within

  pub y-small : square y ≤ 274341298176
  y-small = square_le q.within

  pub f-small : square f ≤ 17592186044416
  f-small = square_le r.within

  pub norm-small : norm_of x y f ≤ 4294967296
  unfolding norm_of
  norm-small = root-small _ (le_trans (root_is _).below (omega (arith, x-small, y-small, f-small))) (dec_le _ _)
