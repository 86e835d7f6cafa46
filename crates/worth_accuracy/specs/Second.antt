-- THE SECOND STAR. The matrix carries it to where it was seen as well as the two pairs agree: by the difference of their dot products, by that difference over
-- the sine of the angle between them, and by rounding. Assumes nothing.
use Rattle.std.specs.Prelude.{List, [], ◌∷◌, ◌≡◌, refl, ℕ, zero, suc, ◌+◌, ◌*◌, ◌/◌, ◌^◌, ◌≤◌, ◌<◌, ℤ, negsuc, nat_abs, ◌+ℤ◌, ◌-ℤ◌, ◌*ℤ◌}
use Rattle.std.proofs.Math.Path.{sym, ap}
use Rattle.std.proofs.Common.{◌∙◌, subst, le_refl, le_trans, mul-le-mul, lit<, lit≤}
use Rattle.std.proofs.Math.Nat.{mul-le-mul_left}
use Rattle.std.proofs.Math.Decide.{dec_le}
use native.Mathlib.Omega.{arith}
use Rattle.std.proofs.Math.IntN.{pos, +ℤ_idl, +ℤ_invr}
use Rattle.std.proofs.Math.Pow.{pow_pos}
use Rattle.std.specs.Int.Signed.{quot_z}
use Rattle.numbers.specs.Abs.{abs-add, abs-mul, abs-zero-sub}
use Rattle.numbers.specs.Within.{Within, wider, within-add, within-sub, within-mul}
use Rattle.numbers.specs.Root.{root}
use Rattle.numbers.specs.Solver.{var, num, ◌⊕◌, ◌⊖◌, ◌⊗◌}
use Rattle.numbers.proofs.Solver.{ring}
use Rattle.numbers.specs.Split.{Split, split, within-as, within_none, within-pos, cut}
use Rattle.numbers.specs.Squares.{square, not-above}
use Rattle.vectors.specs.declared.Vec3.{Vec3}
use Rattle.vectors.specs.Vectors.{Within3, dot_of, cross_of}
use Rattle.vectors.specs.Laws.{dot-within, cross-within, dot-comm}
use Rattle.vectors.specs.Symbols.{vec, ◌▹◌, ◌⊙◌, cross, times_of, times, more_of, more, sum_of, sum, mix_of, turn_of}
use Rattle.vectors.specs.Identities.{dot-turn}
use Rattle.vectors.specs.Triples.{triple_at, pair_dot}
use Rattle.vectors.specs.Agree.{agreeing-near}
use Rattle.vectors.specs.Unit.{NearlyUnit}
use Rattle.catalogue.specs.Stars.{stars_of}
use Rattle.search_theory.specs.Order.{at}
use Rattle.search_fit.specs.Fit.{agreement, FitsHere}
use Rattle.search.specs.Identified.{setup_for}
use Rattle.attitude.specs.declared.Matrix.{Matrix}
use Rattle.attitude.specs.Scale.{largest_of, shift_of, reduced_of}
use Rattle.attitude.specs.Side.{squares_of, unit_of, axes_of}
use Rattle.attitude.specs.Entries.{row_by}
use Rattle.attitude.specs.Attitude.{matrix_of}
use Rattle.attitude.specs.Laws.{close-is, same-close}
use Rattle.attitude.specs.Nearly.{Apart, Carries}
use Rattle.attitude.specs.Identities.{made-x, dot-mix-from}
use Rattle.attitude.specs.Bounds.{unit-within}
use Rattle.attitude.specs.Length.{root-long}
use Rattle.attitude.specs.Upright.{over-near-from}
use Rattle.attitude.proofs.Upright.{second-upright-other, second-unit}
use Rattle.attitude.proofs.Accuracy.{camera-apart, sky-apart, found-is}
use Rattle.attitude.specs.Frame.{Frame, third-small, Rows, rows}
use Rattle.attitude.proofs.Frame.{side-frame}
use Rattle.worth_accuracy.specs.Worth.{Worth}

-- ---- a vector made anew from its dot products with the three axes of a side

module _ {l : ℕ} {a b c : Vec3} (f : Frame l a b c) (few : l ≤ 1000000000000) (v : Vec3) (w : Within3 1000000000 v) where
  k : Rows (l + 24001000000) a b c
  k = rows f few

  pub remade-x : Within (3000000000 * (l + 24001000000)) (sum_of a.x b.x c.x (dot_of v a) (dot_of v b) (dot_of v c) -ℤ pos 1000000000000000000 *ℤ v.x)
  remade-x =
      wider
      (within-as (made-x (pos 1000000000) a b c v)
      (within-add (within-add (within-mul k.xx w.x) (within-mul k.xy w.y)) (within-mul k.zx w.z)))
      (omega arith)

  pub remade-y : Within (3000000000 * (l + 24001000000)) (sum_of a.y b.y c.y (dot_of v a) (dot_of v b) (dot_of v c) -ℤ pos 1000000000000000000 *ℤ v.y)
  remade-y =
      wider
      (within-as
      (made-x (pos 1000000000) (turn_of a) (turn_of b) (turn_of c) (turn_of v)
      ∙ (λ i. sum_of a.y b.y c.y (sym (dot-turn v a) i) (sym (dot-turn v b) i) (sym (dot-turn v c) i) -ℤ pos 1000000000000000000 *ℤ v.y))
      (within-add (within-add (within-mul k.yy w.y) (within-mul k.yz w.z)) (within-mul k.xy w.x)))
      (omega arith)

  twice : (u : Vec3) → dot_of (turn_of (turn_of v)) (turn_of (turn_of u)) ≡ dot_of v u
  twice u = sym (dot-turn v u ∙ dot-turn (turn_of v) (turn_of u))

  pub remade-z : Within (3000000000 * (l + 24001000000)) (sum_of a.z b.z c.z (dot_of v a) (dot_of v b) (dot_of v c) -ℤ pos 1000000000000000000 *ℤ v.z)
  remade-z =
      wider
      (within-as
      (made-x (pos 1000000000) (turn_of (turn_of a)) (turn_of (turn_of b)) (turn_of (turn_of c)) (turn_of (turn_of v))
      ∙ (λ i. sum_of a.z b.z c.z (twice a i) (twice b i) (twice c i) -ℤ pos 1000000000000000000 *ℤ v.z))
      (within-add (within-add (within-mul k.zz w.z) (within-mul k.zx w.x)) (within-mul k.yz w.y)))
      (omega arith)

  -- the squares of the three dot products are 10^18 times that of the vector
  squares : (n : ℤ) (a b c v : Vec3) →
      v.x *ℤ (sum_of a.x b.x c.x (dot_of v a) (dot_of v b) (dot_of v c) -ℤ n *ℤ v.x)
      +ℤ v.y *ℤ (sum_of a.y b.y c.y (dot_of v a) (dot_of v b) (dot_of v c) -ℤ n *ℤ v.y)
      +ℤ v.z *ℤ (sum_of a.z b.z c.z (dot_of v a) (dot_of v b) (dot_of v c) -ℤ n *ℤ v.z) ≡
      dot_of v a *ℤ dot_of v a +ℤ dot_of v b *ℤ dot_of v b +ℤ dot_of v c *ℤ dot_of v c -ℤ n *ℤ dot_of v v
  squares n a b c v =
      let e = var 0 in let g = vec 1 in let h = vec 4 in let i = vec 7 in let u = vec 10 in
      ring (n ∷ (a ▹ b ▹ c ▹ v ▹ []))
      (u.x ⊗ (sum g.x h.x i.x (u ⊙ g) (u ⊙ h) (u ⊙ i) ⊖ e ⊗ u.x)
      ⊕ u.y ⊗ (sum g.y h.y i.y (u ⊙ g) (u ⊙ h) (u ⊙ i) ⊖ e ⊗ u.y)
      ⊕ u.z ⊗ (sum g.z h.z i.z (u ⊙ g) (u ⊙ h) (u ⊙ i) ⊖ e ⊗ u.z))
      (u ⊙ g ⊗ u ⊙ g ⊕ u ⊙ h ⊗ u ⊙ h ⊕ u ⊙ i ⊗ u ⊙ i ⊖ e ⊗ u ⊙ u) tt

  -- so those with the first axis and the third are 10^36 together, where the vector is a unit and stands upright on the second axis
  pub first-and-third :
      {m : ℕ} → NearlyUnit m v → Within 9000000000 (dot_of v b) →
      Within (9000000000000000000 * (l + 24001000000) + 81000000000000000000 + 1000000000000000000 * m)
      (dot_of v a *ℤ dot_of v a +ℤ dot_of v c *ℤ dot_of v c -ℤ pos 1000000000000000000000000000000000000)
  first-and-third unit upright =
      within-as (rest (dot_of v a) (dot_of v b) (dot_of v c) (pos 1000000000000000000) (dot_of v v))
      (wider
      (within-add
      (within-sub
      (within-as (squares (pos 1000000000000000000) a b c v)
      (within-add (within-add (within-mul w.x remade-x) (within-mul w.y remade-y)) (within-mul w.z remade-z)))
      (within-mul upright upright))
      (within-mul (within-pos 1000000000000000000) unit.length))
      (omega arith))
    where
      rest : (p q r n e : ℤ) → p *ℤ p +ℤ q *ℤ q +ℤ r *ℤ r -ℤ n *ℤ e -ℤ q *ℤ q +ℤ n *ℤ (e -ℤ n) ≡ p *ℤ p +ℤ r *ℤ r -ℤ n *ℤ n
      rest p q r n e =
          ring (p ∷ (q ∷ (r ∷ (n ∷ (e ∷ [])))))
          (var 0 ⊗ var 0 ⊕ var 1 ⊗ var 1 ⊕ var 2 ⊗ var 2 ⊖ var 3 ⊗ var 4 ⊖ var 1 ⊗ var 1 ⊕ var 3 ⊗ (var 4 ⊖ var 3))
          (var 0 ⊗ var 0 ⊕ var 2 ⊗ var 2 ⊖ var 3 ⊗ var 3) tt

-- ---- how far the second vector of a side lies from the first, along the third axis: against it, so that the two sides' cannot cancel

-- a number nearer to a than to 0 is one of the numbers from 0 on
not_negative : {k : ℕ} (a : ℕ) (z : ℤ) → Within k (z -ℤ pos a) → k < a → z ≡ pos (nat_abs z)
not_negative a (pos n) w h = refl
not_negative zero (negsuc n) w h = absurd (omega arith)
not_negative (suc a) (negsuc n) w h = absurd (omega (arith, w.within))

-- and so is one that 10^9 times is
over-billion : (z : ℤ) (n : ℕ) → pos 1000000000 *ℤ z ≡ pos n → z ≡ pos (nat_abs z)
over-billion (pos m) n e = refl
over-billion (negsuc m) n e = absurd (omega (arith, ap nat_abs (ap (λ (k : ℤ). k +ℤ pos (1000000000 * suc m)) (sym e) ∙ gone m)))
  where
    gone : (m : ℕ) → pos 1000000000 *ℤ negsuc m +ℤ pos (1000000000 * suc m) ≡ pos 0
    gone m =
        let n = num (pos 1000000000) in
        ap (λ (k : ℤ). pos 1000000000 *ℤ k +ℤ pos 1000000000 *ℤ pos (suc m)) (sym (+ℤ_idl (negsuc m)))
        ∙ ring (pos (suc m) ∷ []) (n ⊗ (num (pos 0) ⊖ var 0) ⊕ n ⊗ var 0) (num (pos 0)) tt

module _ (v1 v2 : Vec3) (side : Apart v1 v2) where
  abbrev c : Vec3
  c = cross_of v1 v2

  abbrev d : Vec3
  d = reduced_of c

  abbrev power : ℕ
  power = 2 ^ shift_of (largest_of c)

  abbrev length : ℕ
  length = root (squares_of d)

  -- t2 and the cross product point the same way
  along :
      (u p n e : ℤ) (t d r s : Vec3) →
      p *ℤ n *ℤ (dot_of t t -ℤ e) +ℤ p *ℤ dot_of t s +ℤ u *ℤ dot_of t r +ℤ p *ℤ (dot_of t (times_of u d) -ℤ dot_of t (more_of n t s)) ≡
      u *ℤ dot_of t (more_of p d r) -ℤ p *ℤ n *ℤ e
  along u p n e t d r s =
      let a = var 0 in let b = var 1 in let m = var 2 in let o = var 3 in
      ring (u ∷ (p ∷ (n ∷ (e ∷ (t ▹ d ▹ r ▹ s ▹ [])))))
      (b ⊗ m ⊗ (vec 4 ⊙ vec 4 ⊖ o) ⊕ b ⊗ vec 4 ⊙ vec 13 ⊕ a ⊗ vec 4 ⊙ vec 10 ⊕ b ⊗ (vec 4 ⊙ times a (vec 7) ⊖ vec 4 ⊙ more m (vec 4) (vec 13)))
      (a ⊗ vec 4 ⊙ more b (vec 7) (vec 10) ⊖ b ⊗ m ⊗ o) tt

  same_way : dot_of (unit_of d) c ≡ pos (nat_abs (dot_of (unit_of d) c))
  unfolding axes_of reduced_of unit_of
  same_way =
      let t = unit_of d in
      let h = pow_pos (shift_of (largest_of c)) in
      let long = root-long c (cross-within side.first side.second) side.apart in
      let n : 0 < length = omega arith in
      let i = split h c.x in let j = split h c.y in let k = split h c.z in
      let x = split n (pos 1000000000 *ℤ d.x) in let y = split n (pos 1000000000 *ℤ d.y) in let z = split n (pos 1000000000 *ℤ d.z) in
      let r : Vec3 = record { x = i.rest; y = j.rest; z = k.rest } in
      let s : Vec3 = record { x = x.rest; y = y.rest; z = z.rest } in
      let small = unit-within d in
      let whole : more_of (pos power) d r ≡ c = λ q. record { x = sym i.is q; y = sym j.is q; z = sym k.is q } in
      let drawn : more_of (pos length) t s ≡ times_of (pos 1000000000) d = λ q. record { x = sym x.is q; y = sym y.is q; z = sym z.is q } in
      let none : dot_of t (times_of (pos 1000000000) d) -ℤ dot_of t (more_of (pos length) t s) ≡ pos 0 =
      ap (λ (q : Vec3). dot_of t (times_of (pos 1000000000) d) -ℤ dot_of t q) drawn ∙ +ℤ_invr (dot_of t (times_of (pos 1000000000) d)) in
      over-billion (dot_of t c) _
      (not_negative (power * length * 1000000000000000000) (pos 1000000000 *ℤ dot_of t c)
      (within-as (along (pos 1000000000) (pos power) (pos length) (pos 1000000000000000000) t d r s
      ∙ ap (λ (q : Vec3). pos 1000000000 *ℤ dot_of t q -ℤ pos (power * length * 1000000000000000000)) whole)
      (within-add
      (within-add
      (within-add (within-mul (within-pos (power * length)) (second-unit v1 v2 side).length)
      (within-mul (within-pos power) (dot-within small (record { x = x.small; y = y.small; z = z.small }))))
      (within-mul (within-pos 1000000000) (dot-within small (record { x = i.small; y = j.small; z = k.small }))))
      (within-mul (within-pos power) (within_none none))))
      (omega (arith, mul-le-mul_left power long)))

-- ---- the heights of both sides

module _ (v1 v2 : Vec3) (side : Apart v1 v2) where
  -- 10^9 times the height, the rest and t2's product with the cross product are 0 together
  turned : (n : ℤ) (a b c s w : Vec3) → n *ℤ dot_of w c +ℤ dot_of w s +ℤ dot_of b (cross_of a w) +ℤ (dot_of w (cross_of a b) -ℤ dot_of w (more_of n c s)) ≡ pos 0
  turned n a b c s w =
      let f = vec 1 in let g = vec 4 in let h = vec 7 in let i = vec 10 in let j = vec 13 in
      ring (n ∷ (a ▹ b ▹ c ▹ s ▹ w ▹ [])) (var 0 ⊗ j ⊙ h ⊕ j ⊙ i ⊕ g ⊙ cross f j ⊕ (j ⊙ cross f g ⊖ j ⊙ more (var 0) h i)) (num (pos 0)) tt

  abbrev height : ℤ
  height = dot_of v2 (axes_of v1 v2).t3

  abbrev turn : ℤ
  turn = dot_of (axes_of v1 v2).t2 (cross_of v1 v2)

  pub height-turn : Within 3000000000000000000 (pos 1000000000 *ℤ height +ℤ turn)
  unfolding axes_of
  height-turn =
      let t = unit_of (reduced_of (cross_of v1 v2)) in
      let n = cross_of v1 t in
      let i = split {p = 1000000000} (lit< tt) n.x in
      let j = split {p = 1000000000} (lit< tt) n.y in
      let k = split {p = 1000000000} (lit< tt) n.z in
      let s : Vec3 = record { x = i.rest; y = j.rest; z = k.rest } in
      let t3 = (axes_of v1 v2).t3 in
      let whole : more_of (pos 1000000000) t3 s ≡ n = λ q. record { x = sym i.is q; y = sym j.is q; z = sym k.is q } in
      let none : dot_of v2 n -ℤ dot_of v2 (more_of (pos 1000000000) t3 s) ≡ pos 0 = ap (λ (q : Vec3). dot_of v2 n -ℤ dot_of v2 q) whole ∙ +ℤ_invr (dot_of v2 n) in
      within-as (left (pos 1000000000 *ℤ dot_of v2 t3) (dot_of v2 s) (dot_of t (cross_of v1 v2)) (dot_of v2 n -ℤ dot_of v2 (more_of (pos 1000000000) t3 s)))
      (wider
      (within-sub (within-sub (within_none (turned (pos 1000000000) v1 t t3 s v2))
      (dot-within side.second (record { x = i.small; y = j.small; z = k.small })))
      (within_none none))
      (lit≤ tt))
    where
      left : (a b c d : ℤ) → a +ℤ b +ℤ c +ℤ d -ℤ b -ℤ d ≡ a +ℤ c
      left a b c d = ring (a ∷ (b ∷ (c ∷ (d ∷ [])))) (var 0 ⊕ var 1 ⊕ var 2 ⊕ var 3 ⊖ var 1 ⊖ var 3) (var 0 ⊕ var 2) tt

  pub turn_is : turn ≡ pos (nat_abs turn)
  unfolding axes_of
  turn_is = same_way v1 v2 side

-- two heights cannot cancel: their sum is no smaller than either, but for rounding
module _ (x y t u : ℤ) (i : t ≡ pos (nat_abs t)) (j : u ≡ pos (nat_abs u)) (p : Within 3000000000000000000 (pos 1000000000 *ℤ x +ℤ t))
    (q : Within 3000000000000000000 (pos 1000000000 *ℤ y +ℤ u)) where
  both : nat_abs t + nat_abs u ≤ 1000000000 * nat_abs (x +ℤ y) + 6000000000000000000
  both =
      let w = within-sub (within-add p q) (within-mul (within-pos 1000000000) (self (x +ℤ y))) in
      omega (arith, (within-as (joined x y t u ∙ (λ k. i k +ℤ j k)) w).within)
    where
      self : (z : ℤ) → Within (nat_abs z) z
      self z = record { within = le_refl (nat_abs z) }

      joined : (x y t u : ℤ) → pos 1000000000 *ℤ x +ℤ t +ℤ (pos 1000000000 *ℤ y +ℤ u) -ℤ pos 1000000000 *ℤ (x +ℤ y) ≡ t +ℤ u
      joined x y t u =
          let n = num (pos 1000000000) in
          ring (x ∷ (y ∷ (t ∷ (u ∷ [])))) (n ⊗ var 0 ⊕ var 2 ⊕ (n ⊗ var 1 ⊕ var 3) ⊖ n ⊗ (var 0 ⊕ var 1)) (var 2 ⊕ var 3) tt

  one : 1000000000 * nat_abs y ≤ nat_abs u + 3000000000000000000
  one = omega (arith, (within-as (alone y u) (within-sub q (self u))).within, abs-mul (pos 1000000000) y)
    where
      self : (z : ℤ) → Within (nat_abs z) z
      self z = record { within = le_refl (nat_abs z) }

      alone : (y u : ℤ) → pos 1000000000 *ℤ y +ℤ u -ℤ u ≡ pos 1000000000 *ℤ y
      alone y u = let n = num (pos 1000000000) in ring (y ∷ (u ∷ [])) (n ⊗ var 0 ⊕ var 1 ⊖ var 1) (n ⊗ var 0) tt

  pub not-cancelled : nat_abs y ≤ nat_abs (x +ℤ y) + 9000000000
  not-cancelled = omega (arith, both, one)

-- ---- by how much the heights of the two sides differ

not-below : {k : ℕ} (a b : ℕ) → Within k (pos a -ℤ pos b) → b ≤ a + k
not-below a b w = not-above b a (within-as (turned (pos a) (pos b)) (wider (within-sub (within-pos 0) w) (omega arith)))
  where
    turned : (x y : ℤ) → pos 0 -ℤ (x -ℤ y) ≡ y -ℤ x
    turned x y = ring (x ∷ (y ∷ [])) (num (pos 0) ⊖ (var 0 ⊖ var 1)) (var 1 ⊖ var 0) tt

-- the cosine c and the height h of a pair, within e
module _ {e : ℕ} (c h : ℤ) (w : Within e (c *ℤ c +ℤ h *ℤ h -ℤ pos 1000000000000000000000000000000000000)) where
  sized : Within e (pos (nat_abs c * nat_abs c + nat_abs h * nat_abs h) -ℤ pos 1000000000000000000000000000000000000)
  sized = within-as (λ i. square c i +ℤ square h i -ℤ pos 1000000000000000000000000000000000000) w

  cosine-small : e ≤ 5300000000000000000000000000000 → Dec (nat_abs c ≤ 1000003000000000000) → nat_abs c ≤ 1000003000000000000
  cosine-small k (yes l) = l
  cosine-small k (no l) =
      let o : 1000003000000000001 ≤ nat_abs c = omega arith in
      absurd (omega (arith, mul-le-mul o o, not-above (nat_abs c * nat_abs c + nat_abs h * nat_abs h) 1000000000000000000000000000000000000 sized))

  -- the height is the sine, as far as it is not lost in rounding
  height-large : (s : ℕ) → s * s + nat_abs c * nat_abs c + e ≤ 1000000000000000000000000000000000000 → Dec (s ≤ nat_abs h) → s ≤ nat_abs h
  height-large s k (yes l) = l
  height-large s k (no l) =
      let o : nat_abs h + 1 ≤ s = omega arith in
      absurd (omega (arith, mul-le-mul o o, not-below (nat_abs c * nat_abs c + nat_abs h * nat_abs h) 1000000000000000000000000000000000000 sized))

quotient_le : (x y b s j : ℕ) → x * y ≤ b → s ≤ y → b ≤ s * j → 0 < s → Dec (x ≤ j) → x ≤ j
quotient_le x y b s j h k l p (yes d) = d
quotient_le x y b s j h k l p (no d) = let o : j + 1 ≤ x = omega arith in absurd (omega (arith, mul-le-mul o k))

module _
    (v1 v2 w1 w2 : Vec3) (camera : Apart v1 v2) (sky : Apart w1 w2)
    (first : NearlyUnit 500000000000 v1) (second : NearlyUnit 500000000000 v2) (star : NearlyUnit 4000000000 w1) (other : NearlyUnit 4000000000 w2)
  where
    abbrev seen : ℤ
    seen = dot_of v2 (axes_of v1 v2).t3

    abbrev known : ℤ
    known = dot_of w2 (axes_of w1 w2).t3

    seen-circle : Within 5300000000000000000000000000000 (dot_of v2 v1 *ℤ dot_of v2 v1 +ℤ seen *ℤ seen -ℤ pos 1000000000000000000000000000000000000)
    seen-circle = wider (first-and-third (side-frame v1 v2 camera first) (lit≤ tt) v2 camera.second second (second-upright-other v1 v2 camera)) (lit≤ tt)

    known-circle : Within 300000000000000000000000000000 (dot_of w2 w1 *ℤ dot_of w2 w1 +ℤ known *ℤ known -ℤ pos 1000000000000000000000000000000000000)
    known-circle = wider (first-and-third (side-frame w1 w2 sky star) (lit≤ tt) w2 sky.second other (second-upright-other w1 w2 sky)) (lit≤ tt)

    heights : (c h d k n : ℤ) → c *ℤ c +ℤ h *ℤ h -ℤ n -ℤ (d *ℤ d +ℤ k *ℤ k -ℤ n) -ℤ (c -ℤ d) *ℤ (c +ℤ d) ≡ (h -ℤ k) *ℤ (k +ℤ h)
    heights c h d k n =
        ring (c ∷ (h ∷ (d ∷ (k ∷ (n ∷ [])))))
        (var 0 ⊗ var 0 ⊕ var 1 ⊗ var 1 ⊖ var 4 ⊖ (var 2 ⊗ var 2 ⊕ var 3 ⊗ var 3 ⊖ var 4) ⊖ (var 0 ⊖ var 2) ⊗ (var 0 ⊕ var 2))
        ((var 1 ⊖ var 3) ⊗ (var 3 ⊕ var 1)) tt

    -- the pairs' dot products differ by at most i; s and 9 x 10^9 is at most 10^18 times the sine of the stars' angle; j is i over that sine, and rounding
    module _
        {i j s : ℕ} (pairs : Within i (dot_of w2 w1 -ℤ dot_of v2 v1)) (far : 0 < s)
        (sine : (s + 9000000000) * (s + 9000000000) + nat_abs (dot_of w2 w1) * nat_abs (dot_of w2 w1) + 300000000000000000000000000000
        ≤ 1000000000000000000000000000000000000)
        (enough : 5600000000000000000000000000000 + i * 2000006000000000000 ≤ s * j)
      where
        pub heights-near : Within j (known -ℤ seen)
        heights-near =
            let a = cosine-small (dot_of w2 w1) known known-circle (lit≤ tt) (dec_le _ _) in
            let b = cosine-small (dot_of v2 v1) seen seen-circle (lit≤ tt) (dec_le _ _) in
            let h = height-large (dot_of w2 w1) known known-circle (s + 9000000000) sine (dec_le _ _) in
            let m = not-cancelled seen known _ _ (turn_is v1 v2 camera) (turn_is w1 w2 sky) (height-turn v1 v2 camera) (height-turn w1 w2 sky) in
            let w = within-as (heights (dot_of w2 w1) known (dot_of v2 v1) seen (pos 1000000000000000000000000000000000000))
            (within-sub (within-sub known-circle seen-circle) (within-mul pairs (within-add (within {z = dot_of w2 w1} a) (within {z = dot_of v2 v1} b)))) in
            record {
              within =
                  quotient_le (nat_abs (known -ℤ seen)) (nat_abs (seen +ℤ known)) _ s j
                  (le_trans (omega (arith, abs-mul (known -ℤ seen) (seen +ℤ known))) w.within) (omega arith) (omega arith) far (dec_le _ _);
            }
          where
            within : {k : ℕ} {z : ℤ} → nat_abs z ≤ k → Within k z
            within h = record { within = h }
