-- Vectors that are nearly 10^9 long. Assumes nothing.
use Rattle.std.specs.Prelude.{◌≡◌, ℕ, zero, suc, ◌+◌, ◌*◌, ◌/◌, ◌≤◌, ◌<◌, ℤ, pos, nat_abs, ◌+ℤ◌, ◌-ℤ◌}
use Rattle.std.proofs.Common.{sym, ap, le_trans, arith}
use Rattle.numbers.specs.Within.{Within, wider}
use Rattle.numbers.specs.Root.{Root}
use Rattle.numbers.specs.Split.{within-as}
use Rattle.numbers.specs.Squares.{square, apart-within, drawn-below, drawn-above, upper, lower}
use Rattle.vectors.specs.declared.Vec3.{Vec3}
use Rattle.vectors.specs.Vectors.{dot_of}

-- x² + y² + z² is within b of 10^18
pub record NearlyUnit (b : ℕ) (v : Vec3) : Type 0 where
  pub length : Within b (dot_of v v -ℤ pos 1000000000000000000)

pub looser : {a b : ℕ} {v : Vec3} → NearlyUnit a v → a ≤ b → NearlyUnit b v
looser h k = record { length = wider h.length k }

pub dot-squares : (v : Vec3) → dot_of v v ≡ pos (nat_abs v.x * nat_abs v.x + nat_abs v.y * nat_abs v.y + nat_abs v.z * nat_abs v.z)
dot-squares v = λ i. square v.x i +ℤ square v.y i +ℤ square v.z i

-- three numbers a, b and c over n, the root of their squares' sum, each times 10^9 and toward zero: the longer n is, the nearer to 10^9
module _
    (k n a b c : ℕ) (v : Vec3) (s : Root (a * a + b * b + c * c) n) (long : 2000000000000000000 ≤ n * k) (least : 4000000000 ≤ k)
    (x : nat_abs v.x ≡ 1000000000 * a / n) (y : nat_abs v.y ≡ 1000000000 * b / n) (z : nat_abs v.z ≡ 1000000000 * c / n)
  where
    positive : (n : ℕ) → 2000000000000000000 ≤ n * k → 0 < n
    positive zero h = omega arith
    positive (suc m) h = omega arith

    pub drawn-unit : NearlyUnit k v
    drawn-unit =
        let h = positive n long in
        let sized = nat_abs v.x * nat_abs v.x + nat_abs v.y * nat_abs v.y + nat_abs v.z * nat_abs v.z in
        record {
          length =
              within-as (ap (λ (q : ℤ). q -ℤ pos 1000000000000000000) (sym (dot-squares v)))
              (apart-within sized 1000000000000000000
              (rw (x, y, z) (upper k n a b c _ _ _ s long (drawn-below n a h) (drawn-below n b h) (drawn-below n c h)))
              (rw (x, y, z) (le_trans (lower k n a b c _ _ _ s long (drawn-above n a h) (drawn-above n b h) (drawn-above n c h)) (omega arith))));
        }
