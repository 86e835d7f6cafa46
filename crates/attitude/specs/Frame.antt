-- The three axes of a side together: the third is as long as the first, the rows that they make are as the axes are, and their determinant is nearly 10^27.
-- Assumes nothing.
use Rattle.std.specs.Prelude.{◌≡◌, ℕ, ◌+◌, ◌*◌, ◌≤◌, ℤ, pos, nat_abs, ◌+ℤ◌, ◌-ℤ◌, ◌*ℤ◌}
use Rattle.std.proofs.Common.{sym, ap, ◌∙◌, mul-le-mul, arith, lit<, lit≤}
use Rattle.std.proofs.Math.Decide.{dec_le}
use Rattle.std.proofs.Math.IntN.{+ℤ_invr}
use Rattle.numbers.specs.Within.{Within, wider, within-add, within-sub, within-mul}
use Rattle.numbers.specs.Split.{Split, split, within-as, within_none, within-pos, cut}
use Rattle.numbers.specs.Squares.{square, apart-within, not-above}
use Rattle.vectors.specs.declared.Vec3.{Vec3}
use Rattle.vectors.specs.Vectors.{Within3, dot_of, cross_of}
use Rattle.vectors.specs.Laws.{dot-within}
use Rattle.vectors.specs.Symbols.{more_of, sum_of, turn_of}
use Rattle.vectors.specs.Identities.{through, dot-turn}
use Rattle.vectors.specs.Unit.{NearlyUnit, dot-squares}
use Rattle.attitude.specs.Side.{squares_of, axes_of}
use Rattle.attitude.specs.Nearly.{Apart, NearlyOrthonormal}
use Rattle.attitude.specs.Identities.{third-square, row_same, row_next, det-axes}

-- three axes, the first within l of a unit: each nearly upright on the others, the third what 10^9 leaves of the cross product of the first two
pub record Frame (l : ℕ) (a b c : Vec3) : Type 0 where
  pub first : Within3 1000000000 a
  pub second : Within3 1000000000 b
  pub third : Within3 2000000000 c
  pub first-long : Within l (dot_of a a -ℤ pos 1000000000000000000)
  pub second-long : Within 4000000000 (dot_of b b -ℤ pos 1000000000000000000)
  pub first-second : Within 9000000000 (dot_of a b)
  pub first-third : Within 3000000000 (dot_of a c)
  pub second-third : Within 3000000000 (dot_of b c)
  pub x : Split (cross_of a b).x 1000000000 c.x
  pub y : Split (cross_of a b).y 1000000000 c.y
  pub z : Split (cross_of a b).z 1000000000 c.z

-- and stay so when their numbers are moved up by one
turn3 : {k : ℕ} {v : Vec3} → Within3 k v → Within3 k (turn_of v)
turn3 w = record { x = w.y; y = w.z; z = w.x }

turned : {l : ℕ} {a b c : Vec3} → Frame l a b c → Frame l (turn_of a) (turn_of b) (turn_of c)
turned {a} {b} {c} f =
    record {
      first = turn3 f.first;
      second = turn3 f.second;
      third = turn3 f.third;
      first-long = within-as (ap (λ (k : ℤ). k -ℤ pos 1000000000000000000) (dot-turn a a)) f.first-long;
      second-long = within-as (ap (λ (k : ℤ). k -ℤ pos 1000000000000000000) (dot-turn b b)) f.second-long;
      first-second = within-as (dot-turn a b) f.first-second;
      first-third = within-as (dot-turn a c) f.first-third;
      second-third = within-as (dot-turn b c) f.second-third;
      x = f.y;
      y = f.z;
      z = f.x;
    }

-- ---- equal vectors make no difference

gone : (f : Vec3 → ℤ) {m n : Vec3} → m ≡ n → f m -ℤ f n ≡ pos 0
gone f {n} e = ap (λ (v : Vec3). f v -ℤ f n) e ∙ +ℤ_invr (f n)

small-root : (x : ℕ) → x * x ≤ 1000001020000000000 → Dec (x ≤ 1000000600) → x ≤ 1000000600
small-root x h (yes k) = k
small-root x h (no k) = let l : 1000000601 ≤ x = omega arith in omega (arith, mul-le-mul l l)

-- a square of at most 10^18 leaves that much at the most
pub gap : {z : ℤ} → Within 1000000000 z → Within 1000000000000000000 (pos 1000000000000000000 -ℤ z *ℤ z)
gap {z} w =
    within-as (ap (λ (k : ℤ). pos 1000000000000000000 -ℤ k) (sym (square z)))
    (apart-within 1000000000000000000 (nat_abs z * nat_abs z) (omega arith) (omega (arith, mul-le-mul w.within w.within)))

-- ---- the third axis

module _ {l : ℕ} {a b c : Vec3} (f : Frame l a b c) where
  abbrev rests : Vec3
  rests = record { x = f.x.rest; y = f.y.rest; z = f.z.rest }

  rests-within : Within3 1000000000 rests
  rests-within = record { x = f.x.small; y = f.y.small; z = f.z.small }

  crossed : more_of (pos 1000000000) c rests ≡ cross_of a b
  crossed = λ t. record { x = sym f.x.is t; y = sym f.y.is t; z = sym f.z.is t }

  -- it is as long as the first: the nearer that is to a unit, the better
  pub third-by : {k m : ℕ} → l ≤ k → 16000000084000000000000000000 + k * 4000000000 ≤ 1000000000000000000 * m → Within m (dot_of c c -ℤ dot_of a a)
  third-by few h =
      let α = wider f.first-long few in
      let β = f.second-long in
      let γ = f.first-second in
      let r = dot-within f.third rests-within in
      cut (lit< tt) (third-square (pos 1000000000) a b c rests)
      (within-add
      (within-sub
      (within-sub (within-sub (within-add (within-mul (within-pos 1000000000000000000) β) (within-mul α β)) (within-mul γ γ))
      (within-mul (within-pos 1000000000) (within-add r r)))
      (dot-within rests-within rests-within))
      (within_none (gone (λ (v : Vec3). dot_of v v) crossed)))
      (omega arith)

module _ {l : ℕ} {a b c : Vec3} (f : Frame l a b c) (few : l ≤ 1000000000000) where
  pub third-near : Within 17000000000 (dot_of c c -ℤ dot_of a a)
  third-near = third-by f {k = 1000000000000} few (lit≤ tt)

  pub third-long : Within (17000000000 + l) (dot_of c c -ℤ pos 1000000000000000000)
  third-long = within-as (through (dot_of c c) (dot_of a a) (pos 1000000000000000000)) (within-add third-near f.first-long)

  pub third-small : Within3 1000000600 c
  third-small =
      let s = not-above (squares_of c) 1000000000000000000 (within-as (ap (λ (k : ℤ). k -ℤ pos 1000000000000000000) (dot-squares c)) third-long) in
      record {
        x = record { within = small-root (nat_abs c.x) (omega arith) (dec_le _ _) };
        y = record { within = small-root (nat_abs c.y) (omega arith) (dec_le _ _) };
        z = record { within = small-root (nat_abs c.z) (omega arith) (dec_le _ _) };
      }

  -- ---- the rows

  same_row : Within (l + 24001000000) (a.x *ℤ a.x +ℤ b.x *ℤ b.x +ℤ c.x *ℤ c.x -ℤ pos 1000000000000000000)
  same_row =
      let α = f.first-long in
      let β = f.second-long in
      let γ = f.first-second in
      let p = f.first.x in
      let q = f.second.x in
      let r = third-small.x in
      let s = f.x.small in
      cut (lit< tt) (row_same (pos 1000000000) a b c (rests f))
      (within-add
      (within-sub
      (within-sub
      (within-add
      (within-sub (within-add (within-add (within-mul α (gap q)) (within-mul β (gap p))) (within-mul α β)) (within-mul γ γ))
      (within-mul γ (within-add (within-mul p q) (within-mul q p))))
      (within-mul (within-pos 1000000000) (within-add (within-mul r s) (within-mul s r))))
      (within-mul s s))
      (within_none (gone (λ (v : Vec3). v.x *ℤ v.x) (crossed f))))
      (omega arith)

  next_row : Within (l + 24001000000) (a.x *ℤ a.y +ℤ b.x *ℤ b.y +ℤ c.x *ℤ c.y)
  next_row =
      let α = f.first-long in
      let β = f.second-long in
      let γ = f.first-second in
      let p = f.first in
      let q = f.second in
      let r = third-small in
      let s = rests-within f in
      cut (lit< tt) (row_next (pos 1000000000) a b c (rests f))
      (within-add
      (within-sub
      (within-sub
      (within-sub
      (within-sub (within-mul γ (within-add (within-mul p.x q.y) (within-mul q.x p.y))) (within-mul β (within-mul p.x p.y)))
      (within-mul α (within-mul q.x q.y)))
      (within-mul (within-pos 1000000000) (within-add (within-mul r.x s.y) (within-mul s.x r.y))))
      (within-mul s.x s.y))
      (within_none (gone (λ (v : Vec3). v.x *ℤ v.y) (crossed f))))
      (omega arith)

  -- ---- their determinant

  pub det-near : Within (1000000000 * l + 20000002000000000000) (dot_of c (cross_of a b) -ℤ pos 1000000000000000000000000000)
  det-near =
      within-as (det-axes (pos 1000000000) c (rests f) ∙ ap (λ (v : Vec3). dot_of c v -ℤ pos 1000000000000000000000000000) (crossed f))
      (wider (within-add (within-mul (within-pos 1000000000) third-long) (dot-within third-small (rests-within f))) (omega arith))

-- the three rows that the axes make are nearly units, and nearly upright on one another
pub record Rows (k : ℕ) (a b c : Vec3) : Type 0 where
  pub xx : Within k (sum_of a.x b.x c.x a.x b.x c.x -ℤ pos 1000000000000000000)
  pub yy : Within k (sum_of a.y b.y c.y a.y b.y c.y -ℤ pos 1000000000000000000)
  pub zz : Within k (sum_of a.z b.z c.z a.z b.z c.z -ℤ pos 1000000000000000000)
  pub xy : Within k (sum_of a.x b.x c.x a.y b.y c.y)
  pub yz : Within k (sum_of a.y b.y c.y a.z b.z c.z)
  pub zx : Within k (sum_of a.z b.z c.z a.x b.x c.x)

pub rows : {l : ℕ} {a b c : Vec3} → Frame l a b c → l ≤ 1000000000000 → Rows (l + 24001000000) a b c
rows f h =
    let g = turned f in
    let k = turned g in
    record {
      xx = same_row f h;
      yy = same_row g h;
      zz = same_row k h;
      xy = next_row f h;
      yz = next_row g h;
      zx = next_row k h;
    }
