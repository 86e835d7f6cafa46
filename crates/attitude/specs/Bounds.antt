-- How large each number on the way to the matrix is, so that every step fits: d is below 2^30, t2 within 10^9, t3 within 2 * 10^9, an entry's
-- sum within 6 * 10^18 and the entry within 6 * 10^9. Assumes nothing.
use Rattle.std.specs.Prelude.{◌≡◌, ℕ, zero, suc, ◌*◌, ◌/◌, ◌^◌, ◌≤◌, ◌<◌, max, ℤ, pos, nat_abs, ◌*ℤ◌}
use Rattle.std.proofs.Common.{zero-le, mul-le-mul, mul-le-mul_left, mul_comm, le-div_iff_mul-le, div-mul-le_self, arith, lit<, pow_pos}
use Rattle.std.proofs.Math.Nat.{le_trans, div-le_of_le-mul}
use Rattle.std.proofs.Math.Decide.{dec_le}
use Rattle.std.specs.Int.Signed.{quot_z}
use Rattle.numbers.specs.Abs.{abs-mul, abs-quot}
use Rattle.numbers.specs.Within.{Within, within-add, within-mul}
use Rattle.numbers.specs.Root.{root, root_is, square-root}
use Rattle.vectors.specs.declared.Vec3.{Vec3}
use Rattle.vectors.specs.Vectors.{Within3}
use Rattle.vectors.specs.Laws.{wider3, cross-within}
use Rattle.attitude.specs.declared.side.Axes.{Axes}
use Rattle.attitude.specs.Scale.{largest_of, over_of, shift_of, reduced_of}
use Rattle.attitude.specs.Side.{squares_of, unit_of, axes_of}
use Rattle.attitude.specs.Entries.{AxesWithin, MatrixWithin, entry_by, row_by, product_of}
use Rattle.attitude.specs.Shift.{Shift, shift_is, shift-at, kept}

-- ---- of any vector

-- the largest magnitude bounds each
pub largest-within : (v : Vec3) → Within3 (largest_of v) v
largest-within v =
    record {
      x = record { within = omega arith };
      y = record { within = omega arith };
      z = record { within = omega arith };
    }

div_mono : {p a b : ℕ} → 0 < p → a ≤ b → a / p ≤ b / p
div_mono {p} {a} h k = (le-div_iff_mul-le h).1 (le_trans (div-mul-le_self a p) k)

pub quot-within : {a p : ℕ} {z : ℤ} → 0 < p → Within a z → Within (a / p) (quot_z z (pos p))
quot-within h k = record { within = rw abs-quot (div_mono h k.within) }

pub over-within : {a p : ℕ} {v : Vec3} → 0 < p → Within3 a v → Within3 (a / p) (over_of v (pos p))
over-within h k = record { x = quot-within h k.x; y = quot-within h k.y; z = quot-within h k.z }

self-square : (a : ℕ) → a ≤ a * a
self-square zero = zero-le
self-square (suc n) = omega (arith, mul-le-mul_left (suc n) (one n))
  where
    one : (n : ℕ) → 1 ≤ suc n
    one n = omega arith

squares-pos : (v : Vec3) → 0 < largest_of v → 0 < squares_of v
squares-pos v h = omega (arith, self-square (nat_abs v.x), self-square (nat_abs v.y), self-square (nat_abs v.z))

max-div : (p a b : ℕ) → Dec (b ≤ a) → max a b / p ≤ max (a / p) (b / p)
max-div p a b (yes h) = let e : max a b ≡ a = omega arith in rw e (omega arith)
max-div p a b (no h) = let e : max a b ≡ b = omega arith in rw e (omega arith)

-- the largest of the quotients is the largest's quotient, or more
pub largest-over : (v : Vec3) (p : ℕ) → largest_of v / p ≤ largest_of (over_of v (pos p))
largest-over v p =
    let x = nat_abs v.x in
    let y = nat_abs v.y in
    let z = nat_abs v.z in
    omega (arith, max-div p x (max y z) (dec_le _ _), max-div p y z (dec_le _ _), abs-quot v.x (pos p), abs-quot v.y (pos p), abs-quot v.z (pos p))

-- ---- d, a cross product reduced

module _ (c : Vec3) (within : Within3 2000000000000000000 c) where
  largest-le : largest_of c ≤ 2000000000000000000
  largest-le = omega (arith, within.x.within, within.y.within, within.z.within)

  shift : Shift (largest_of c) (shift_of (largest_of c))
  shift = shift_is (largest_of c) (omega (arith, largest-le))

  pub shift_le : shift_of (largest_of c) ≤ 31
  shift_le = shift-at _ _ (omega (arith, largest-le)) shift

  pub reduced-within : Within3 1073741823 (reduced_of c)
  unfolding reduced_of
  reduced-within = wider3 (over-within (pow_pos (shift_of (largest_of c))) (largest-within c)) (omega (arith, shift.small))

  pub reduced-large : 2 ^ 30 ≤ largest_of c → 0 < largest_of (reduced_of c)
  unfolding reduced_of
  reduced-large h = le_trans (kept _ _ h shift) (largest-over c _)

-- ---- n, its length, and t2, along it

module _ (d : Vec3) where
  pub root-pos : 0 < largest_of d → 0 < root (squares_of d)
  root-pos h = square-root (root_is _) (squares-pos d h)

  root-within : Within3 (root (squares_of d)) d
  root-within =
      record {
        x = record { within = square-root (root_is _) (omega arith) };
        y = record { within = square-root (root_is _) (omega arith) };
        z = record { within = square-root (root_is _) (omega arith) };
      }

  pub squares-le : Within3 1073741823 d → squares_of d ≤ 3458764507379957787
  squares-le h = omega (arith, mul-le-mul h.x.within h.x.within, mul-le-mul h.y.within h.y.within, mul-le-mul h.z.within h.z.within)

root-small : (r : ℕ) → r * r ≤ 3458764507379957787 → Dec (r ≤ 4294967296) → r ≤ 4294967296
root-small r h (yes k) = k
root-small r h (no k) = let l : 4294967297 ≤ r = omega arith in omega (arith, mul-le-mul l l)

pub root-le : (d : Vec3) → Within3 1073741823 d → root (squares_of d) ≤ 4294967296
root-le d h = root-small _ (le_trans (root_is _).below (squares-le d h)) (dec_le _ _)

drawn-out : (n : ℕ) (z : ℤ) → Within n z → Within 1000000000 (quot_z (pos 1000000000 *ℤ z) (pos n))
drawn-out n z w = record { within = rw (abs-quot, abs-mul) (div-le_of_le-mul n (omega (arith, mul-le-mul_left 1000000000 w.within, mul_comm 1000000000 n))) }

pub unit-within : (d : Vec3) → Within3 1000000000 (unit_of d)
unfolding unit_of
unit-within d =
    let w = root-within d in
    record { x = drawn-out _ d.x w.x; y = drawn-out _ d.y w.y; z = drawn-out _ d.z w.z }

-- ---- a side, and the matrix of two

module _ {a b c : ℤ} (i : Within 1000000000 a) (j : Within 1000000000 b) (k : Within 2000000000 c) where
  entry-within : {x y z : ℤ} → Within 1000000000 x → Within 1000000000 y → Within 2000000000 z → Within 6000000000 (entry_by a b c x y z)
  entry-within l m n = quot-within (lit< tt) (within-add (within-add (within-mul i l) (within-mul j m)) (within-mul k n))

  row_within : {t : Axes} → AxesWithin t → Within3 6000000000 (row_by a b c t)
  row_within h =
      record {
        x = entry-within h.t1.x h.t2.x h.t3.x;
        y = entry-within h.t1.y h.t2.y h.t3.y;
        z = entry-within h.t1.z h.t2.z h.t3.z;
      }

pub product-within : {t u : Axes} → AxesWithin t → AxesWithin u → MatrixWithin 6000000000 (product_of t u)
product-within h k =
    record {
      row0 = row_within h.t1.x h.t2.x h.t3.x k;
      row1 = row_within h.t1.y h.t2.y h.t3.y k;
      row2 = row_within h.t1.z h.t2.z h.t3.z k;
    }
