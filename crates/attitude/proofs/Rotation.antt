-- The matrix is nearly a rotation: its rows are nearly units and nearly upright on one another, and its determinant is nearly 10^27. Assumes nothing.
use Rattle.std.specs.Prelude.{◌≡◌, ℕ, ◌+◌, ◌*◌, ◌≤◌, ℤ, pos, ◌+ℤ◌, ◌-ℤ◌, ◌*ℤ◌}
use Rattle.std.proofs.Common.{sym, ap, ◌∙◌, le_trans, lit<, lit≤}
use Rattle.std.proofs.Math.Nat.{div-le_of_le-mul}
use native.Mathlib.Omega.{arith}
use Rattle.std.proofs.Math.IntN.{+ℤ_idr, +ℤ_invr}
use Rattle.std.specs.Int.Signed.{quot_z}
use Rattle.numbers.specs.Abs.{abs-quot}
use Rattle.numbers.specs.Within.{Within, wider, within-add, within-sub, within-mul}
use Rattle.numbers.specs.Split.{Split, split, within-as, within_none, within-pos, cut}
use Rattle.vectors.specs.declared.Vec3.{Vec3}
use Rattle.vectors.specs.Vectors.{Within3, dot_of, cross_of}
use Rattle.vectors.specs.Laws.{dot-within, cross-within}
use Rattle.vectors.specs.Symbols.{more_of, sum_of, mix_of, det_of}
use Rattle.vectors.specs.Identities.{det-product}
use Rattle.vectors.specs.Unit.{NearlyUnit}
use Rattle.attitude.specs.Scale.{over_of}
use Rattle.attitude.specs.Side.{axes_of}
use Rattle.attitude.specs.Attitude.{matrix_of}
use Rattle.attitude.specs.Nearly.{Apart, NearlyIdentity}
use Rattle.attitude.specs.Identities.{row-product, outer-two, det-rest, parts}
use Rattle.attitude.specs.Frame.{Frame, third-small, third-near, gap, det-near, Rows, rows}
use Rattle.attitude.proofs.Frame.{side-frame}
use Rattle.attitude.specs.Rotation.{Three}

entry-quot : {a b : ℕ} {z : ℤ} (p : ℕ) → Within a z → a ≤ p * b → Within b (quot_z z (pos p))
entry-quot p w h = record { within = rw abs-quot (div-le_of_le-mul p (le_trans w.within h)) }

module _ {l : ℕ} {t u v : Vec3} (f : Frame l t u v) (few : l ≤ 1000000000000) where
  -- a row of the matrix, and what its quotients leave
  module _ {a b c : ℤ} (h : Three a b c) where
    abbrev mixed : Vec3
    mixed = mix_of a b c t u v

    abbrev row : Vec3
    row = over_of mixed (pos 1000000000)

    entry-within : {x y z : ℤ} → Within 1000000000 x → Within 1000000000 y → Within 1000000600 z
        → Within 3000001201 (quot_z (sum_of a b c x y z) (pos 1000000000))
    entry-within i j k = entry-quot 1000000000 (within-add (within-add (within-mul h.first i) (within-mul h.second j)) (within-mul h.third k))
        (lit≤ tt)

    row_within : Within3 3000001201 row
    row_within =
        let s = third-small f few in
        record {
          x = entry-within f.first.x f.second.x s.x;
          y = entry-within f.first.y f.second.y s.y;
          z = entry-within f.first.z f.second.z s.z;
        }

    left : (e : ℤ) → Split e 1000000000 (quot_z e (pos 1000000000))
    left = split (lit< tt)

    abbrev rests : Vec3
    rests = record { x = (left mixed.x).rest; y = (left mixed.y).rest; z = (left mixed.z).rest }

    rests-within : Within3 1000000000 rests
    rests-within = record { x = (left mixed.x).small; y = (left mixed.y).small; z = (left mixed.z).small }

    whole : more_of (pos 1000000000) row rests ≡ mixed
    whole = λ i. record { x = sym (left mixed.x).is i; y = sym (left mixed.y).is i; z = sym (left mixed.z).is i }

  -- two rows
  row_near :
      {k : ℕ} {a b c x y z : ℤ} (d : ℤ) (h : Three a b c) (g : Three x y z) →
      k ≤ 2000000000000 →
      Within 1000000000000000000 (d -ℤ b *ℤ y) →
      Within k (sum_of a b c x y z -ℤ d) →
      Within (k + l + 69003000000) (dot_of (over_of (mix_of a b c t u v) (pos 1000000000)) (over_of (mix_of x y z t u v) (pos 1000000000)) -ℤ d)
  row_near {a} {b} {c} {x} {y} {z} d h g i gap near =
      let p : Within 1000002000000000000 (a *ℤ x +ℤ c *ℤ z) = within-as (outer-two (a *ℤ x) (b *ℤ y) (c *ℤ z) d) (within-add (wider near i) gap) in
      let q = within-mul h.second g.second in
      let r = within-mul h.third g.third in
      let one = within-add (within-mul h.first g.second) (within-mul h.second g.first) in
      let two = within-add (within-mul h.first g.third) (within-mul h.third g.first) in
      let three = within-add (within-mul h.second g.third) (within-mul h.third g.second) in
      let gone = (λ i. dot_of (whole h i) (whole g i) -ℤ dot_of (mixed h) (mixed g)) ∙ +ℤ_invr (dot_of (mixed h) (mixed g)) in
      cut (lit< tt) (row-product (pos 1000000000) d a b c x y z t u v (row h) (rests h) (row g) (rests g))
      (within-add
      (within-sub
      (within-sub
      (within-add
      (within-add
      (within-add
      (within-add
      (within-add
      (within-add (within-mul (within-pos 1000000000000000000) near) (within-mul p f.first-long))
      (within-mul q f.second-long))
      (within-mul r (third-near f few)))
      (within-mul one f.first-second))
      (within-mul two f.first-third))
      (within-mul three f.second-third))
      (within-mul (within-pos 1000000000) (within-add (dot-within (row_within h) (rests-within g)) (dot-within (rests-within h) (row_within g)))))
      (dot-within (rests-within h) (rests-within g)))
      (within_none gone))
      (omega arith)

  across :
      {k : ℕ} {a b c x y z : ℤ} (h : Three a b c) (g : Three x y z) →
      k ≤ 2000000000000 →
      Within k (sum_of a b c x y z) →
      Within (k + l + 69003000000) (dot_of (over_of (mix_of a b c t u v) (pos 1000000000)) (over_of (mix_of x y z t u v) (pos 1000000000)))
  across h g i near =
      within-as (+ℤ_idr _)
      (row_near (pos 0) h g i (within-sub (within-pos 0) (within-mul h.second g.second)) (within-as (sym (+ℤ_idr _)) near))

-- the numbers of a side in the three rows
module _ {l : ℕ} {a b c : Vec3} (f : Frame l a b c) (few : l ≤ 1000000000000) where
  three-x : Three a.x b.x c.x
  three-x = record { first = f.first.x; second = f.second.x; third = (third-small f few).x }

  three-y : Three a.y b.y c.y
  three-y = record { first = f.first.y; second = f.second.y; third = (third-small f few).y }

  three-z : Three a.z b.z c.z
  three-z = record { first = f.first.z; second = f.second.z; third = (third-small f few).z }

det-within : {i j k : ℕ} {p q r : Vec3} → Within3 i p → Within3 j q → Within3 k r
    → Within (i * (j * k + j * k) + i * (j * k + j * k) + i * (j * k + j * k)) (det_of p q r)
det-within p q r = dot-within p (cross-within q r)

-- the determinant of three rows q, where that of the rows 10^9 q + r is the product of d and e
module _
    (d e : ℤ) (q r q' r' q'' r'' : Vec3)
    (dn : Within 1020100000000000000000 (d -ℤ pos 1000000000000000000000000000))
    (en : Within 1020100000000000000000 (e -ℤ pos 1000000000000000000000000000))
    (a : Within3 3000001201 q) (x : Within3 1000000000 r)
    (b : Within3 3000001201 q') (y : Within3 1000000000 r')
    (c : Within3 3000001201 q'') (z : Within3 1000000000 r'')
    (whole : det_of (more_of (pos 1000000000) q r) (more_of (pos 1000000000) q' r') (more_of (pos 1000000000) q'' r'') ≡ d *ℤ e)
  where
    det-off :
        Within 162100000000000000000
        (det_of q q' q'' -ℤ pos 1000000000000000000000000000 -ℤ (d -ℤ pos 1000000000000000000000000000) -ℤ (e -ℤ pos 1000000000000000000000000000))
    det-off =
        cut (lit< tt) (det-rest (pos 1000000000) d e q r q' r' q'' r'')
        (within-add
        (within-sub
        (within-sub
        (within-sub (within-mul dn en)
        (within-mul (within-pos 1000000000000000000) (within-add (within-add (det-within x b c) (det-within a y c)) (det-within a b z))))
        (within-mul (within-pos 1000000000) (within-add (within-add (det-within x y c) (det-within x b z)) (det-within a y z))))
        (det-within x y z))
        (within_none (ap (λ (k : ℤ). k -ℤ d *ℤ e) whole ∙ +ℤ_invr (d *ℤ e))))
        (lit≤ tt)

-- the determinant of the matrix of two sides
module _ {l k : ℕ} {a b c t u v : Vec3} (f : Frame l a b c) (few : l ≤ 1000000000000) (g : Frame k t u v) (few' : k ≤ 1000000000000) where
  det-rows :
      Within (1000000000 * (l + k) + 203000000000000000000)
      (det_of (row g few' (three-x f few)) (row g few' (three-y f few)) (row g few' (three-z f few)) -ℤ pos 1000000000000000000000000000)
  det-rows =
      let p = three-x f few in
      let q = three-y f few in
      let r = three-z f few in
      let d = dot_of c (cross_of a b) in
      let e = dot_of v (cross_of t u) in
      let dn = det-near f few in
      let en = det-near g few' in
      within-as (parts _ (d -ℤ pos 1000000000000000000000000000) (e -ℤ pos 1000000000000000000000000000))
      (wider
      (within-add
      (within-add
      (det-off d e _ (rests g few' p) _ (rests g few' q) _ (rests g few' r) (wider dn (omega arith)) (wider en (omega arith))
      (row_within g few' p) (rests-within g few' p) (row_within g few' q) (rests-within g few' q) (row_within g few' r) (rests-within g few' r)
      ((λ i. det_of (whole g few' p i) (whole g few' q i) (whole g few' r i)) ∙ det-product a b c t u v))
      dn)
      en)
      (omega arith))

module _ {l k : ℕ} (v1 v2 w1 w2 : Vec3) (camera : Apart v1 v2) (sky : Apart w1 w2) (long : NearlyUnit l v1) (long' : NearlyUnit k w1) where
  pub product-rows : l ≤ 1000000000000 → k ≤ 1000000000000 → NearlyIdentity (l + k + 94000000000) (matrix_of v1 v2 w1 w2)
  unfolding matrix_of axes_of
  product-rows few few' =
      let f = side-frame v1 v2 camera long in
      let g = side-frame w1 w2 sky long' in
      let r = rows f few in
      let i : l + 24001000000 ≤ 2000000000000 = omega arith in
      let x = three-x f few in
      let y = three-y f few in
      let z = three-z f few in
      record {
        xx = wider (row_near g few' (pos 1000000000000000000) x x i (gap x.second) r.xx) (omega arith);
        yy = wider (row_near g few' (pos 1000000000000000000) y y i (gap y.second) r.yy) (omega arith);
        zz = wider (row_near g few' (pos 1000000000000000000) z z i (gap z.second) r.zz) (omega arith);
        xy = wider (across g few' x y i r.xy) (omega arith);
        yz = wider (across g few' y z i r.yz) (omega arith);
        zx = wider (across g few' z x i r.zx) (omega arith);
      }

  -- and its determinant is nearly 10^27: it turns, and does not mirror
  pub proper :
      l ≤ 1000000000000 → k ≤ 1000000000000 →
      Within (1000000000 * (l + k) + 203000000000000000000)
      (det_of (matrix_of v1 v2 w1 w2).row0 (matrix_of v1 v2 w1 w2).row1 (matrix_of v1 v2 w1 w2).row2 -ℤ pos 1000000000000000000000000000)
  unfolding matrix_of axes_of
  proper few few' = det-rows (side-frame v1 v2 camera long) few (side-frame w1 w2 sky long') few'
