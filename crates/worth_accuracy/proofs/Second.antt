-- THE SECOND STAR. The matrix carries it to where it was seen as well as the two pairs agree: by the difference of their dot products, by that difference over
-- the sine of the angle between them, and by rounding. Assumes nothing.
use Rattle.std.specs.Prelude.{List, [], ◌∷◌, ◌≡◌, refl, ℕ, zero, suc, ◌+◌, ◌*◌, ◌/◌, ◌^◌, ◌≤◌, ◌<◌, ℤ, negsuc, nat_abs, ◌+ℤ◌, ◌-ℤ◌, ◌*ℤ◌}
use Rattle.std.proofs.Math.Path.{sym, ap}
use Rattle.std.proofs.Common.{◌∙◌, subst, le_refl, le_trans, mul-le-mul, lit<, lit≤}
use Rattle.std.proofs.Math.Nat.{mul-le-mul_left}
use Rattle.std.proofs.Math.Decide.{dec_le}
use native.Mathlib.Omega.{arith}
use Rattle.std.proofs.Math.IntN.{pos, +ℤ_idl, +ℤ_invr}
use Rattle.std.proofs.Math.Pow.{pow_pos}
use Rattle.std.specs.Int.Signed.{quot_z}
use Rattle.numbers.specs.Abs.{abs-add, abs-mul, abs-zero-sub}
use Rattle.numbers.specs.Within.{Within, wider, within-add, within-sub, within-mul}
use Rattle.numbers.specs.Root.{root}
use Rattle.numbers.specs.Solver.{var, num, ◌⊕◌, ◌⊖◌, ◌⊗◌}
use Rattle.numbers.proofs.Solver.{ring}
use Rattle.numbers.specs.Split.{Split, split, within-as, within_none, within-pos, cut}
use Rattle.numbers.specs.Squares.{square, not-above}
use Rattle.vectors.specs.declared.Vec3.{Vec3}
use Rattle.vectors.specs.Vectors.{Within3, dot_of, cross_of}
use Rattle.vectors.specs.Laws.{dot-within, cross-within, dot-comm}
use Rattle.vectors.specs.Symbols.{vec, ◌▹◌, ◌⊙◌, cross, times_of, times, more_of, more, sum_of, sum, mix_of, turn_of}
use Rattle.vectors.specs.Identities.{dot-turn}
use Rattle.vectors.specs.Triples.{triple_at, pair_dot}
use Rattle.vectors.specs.Agree.{agreeing-near}
use Rattle.vectors.specs.Unit.{NearlyUnit}
use Rattle.catalogue.specs.Stars.{stars_of}
use Rattle.search_theory.specs.Order.{at}
use Rattle.search_fit.specs.Fit.{agreement, FitsHere}
use Rattle.search.specs.Identified.{setup_for}
use Rattle.attitude.specs.declared.Matrix.{Matrix}
use Rattle.attitude.specs.Scale.{largest_of, shift_of, reduced_of}
use Rattle.attitude.specs.Side.{squares_of, unit_of, axes_of}
use Rattle.attitude.specs.Entries.{row_by}
use Rattle.attitude.specs.Attitude.{matrix_of}
use Rattle.attitude.specs.Laws.{close-is, same-close}
use Rattle.attitude.specs.Nearly.{Apart, Carries}
use Rattle.attitude.specs.Identities.{made-x, dot-mix-from}
use Rattle.attitude.specs.Bounds.{unit-within}
use Rattle.attitude.specs.Length.{root-long}
use Rattle.attitude.specs.Upright.{over-near-from}
use Rattle.attitude.proofs.Upright.{second-upright-other, second-unit}
use Rattle.attitude.proofs.Accuracy.{camera-apart, sky-apart, found-is}
use Rattle.attitude.specs.Frame.{Frame, third-small, Rows, rows}
use Rattle.attitude.proofs.Frame.{side-frame}
use Rattle.worth_accuracy.specs.Worth.{Worth}
use Rattle.worth_accuracy.specs.Second.{remade-x, remade-y, remade-z}
use Rattle.worth_accuracy.specs.Second as defs

module _
    (v1 v2 w1 w2 : Vec3) (camera : Apart v1 v2) (sky : Apart w1 w2)
    (first : NearlyUnit 500000000000 v1) (second : NearlyUnit 500000000000 v2) (star : NearlyUnit 4000000000 w1) (other : NearlyUnit 4000000000 w2)
  where
    abbrev seen : ℤ
    seen = dot_of v2 (axes_of v1 v2).t3

    abbrev known : ℤ
    known = dot_of w2 (axes_of w1 w2).t3

    -- the pairs' dot products differ by at most i; s and 9 x 10^9 is at most 10^18 times the sine of the stars' angle; j is i over that sine, and rounding
    module _
        {i j s : ℕ} (pairs : Within i (dot_of w2 w1 -ℤ dot_of v2 v1)) (far : 0 < s)
        (sine : (s + 9000000000) * (s + 9000000000) + nat_abs (dot_of w2 w1) * nat_abs (dot_of w2 w1) + 300000000000000000000000000000
        ≤ 1000000000000000000000000000000000000)
        (enough : 5600000000000000000000000000000 + i * 2000006000000000000 ≤ s * j)
      where
        heights-near : Within j (known -ℤ seen)
        heights-near = defs.heights-near v1 v2 w1 w2 camera sky first second star other pairs far sine enough

        -- ---- a row of the matrix times the second star

        module _ (few : j ≤ 10000000000000000) where
          row_carries :
              {a b c : ℤ} (x : ℤ) →
              Within 1000000000 a → Within 1000000000 b → Within 1000000600 c →
              Within 1572003000000000000000 (sum_of a b c (dot_of v2 v1) (dot_of v2 (axes_of v1 v2).t2) seen -ℤ pos 1000000000000000000 *ℤ x) →
              Within (i + j + 1600000000000) (dot_of (row_by a b c (axes_of w1 w2)) w2 -ℤ pos 1000000000 *ℤ x)
          unfolding axes_of
          row_carries {a} {b} {c} x p q r made =
              let t = axes_of w1 w2 in
              let u = axes_of v1 v2 in
              within-as (ap (λ (n : ℤ). n -ℤ pos 1000000000 *ℤ x) (dot-comm w2 (row_by a b c t)))
              (over-near-from (pos 1000000000 *ℤ x) w2 (mix_of a b c t.t1 t.t2 t.t3) (lit< tt) sky.second
              (within-as (dot-mix-from (pos 1000000000) x a b c (dot_of v2 v1) (dot_of v2 u.t2) (dot_of v2 u.t3) w2 t.t1 t.t2 t.t3)
              (within-add
              (within-add
              (within-add (within-mul p pairs) (within-mul q (within-sub (second-upright-other w1 w2 sky) (second-upright-other v1 v2 camera))))
              (within-mul r heights-near))
              made))
              (omega arith))

          -- THE LAW: by the pairs' difference i, the same over the sine, j, and 1.6 x 10^12
          pub second-carries : Carries (i + j + 1600000000000) (matrix_of v1 v2 w1 w2) w2 v2
          unfolding matrix_of axes_of
          second-carries =
              let f = side-frame v1 v2 camera first in
              let small = third-small f (lit≤ tt) in
              record {
                x = row_carries v2.x f.first.x f.second.x small.x (remade-x f (lit≤ tt) v2 camera.second);
                y = row_carries v2.y f.first.y f.second.y small.y (remade-y f (lit≤ tt) v2 camera.second);
                z = row_carries v2.z f.first.z f.second.z small.z (remade-z f (lit≤ tt) v2 camera.second);
              }

-- ---- so of every answer that is worth it: an accepted chain's, with or without an index, and a burst's

module _
    {directions : List ℤ} {bytes : List ℕ} {words : List ℕ} {m : Matrix} (w : Worth directions bytes words m)
  where
    abbrev pub v1 : Vec3
    v1 = triple_at directions w.first

    abbrev pub v2 : Vec3
    v2 = triple_at directions w.second

    abbrev pub w1 : Vec3
    w1 = triple_at (stars_of bytes) (at words w.first)

    abbrev pub w2 : Vec3
    w2 = triple_at (stars_of bytes) (at words w.second)

    pub second-carried :
        {i j s : ℕ} →
        Within i (dot_of w2 w1 -ℤ dot_of v2 v1) → 0 < s →
        (s + 9000000000) * (s + 9000000000) + nat_abs (dot_of w2 w1) * nat_abs (dot_of w2 w1) + 300000000000000000000000000000
        ≤ 1000000000000000000000000000000000000 →
        5600000000000000000000000000000 + i * 2000006000000000000 ≤ s * j → j ≤ 10000000000000000 → Carries (i + j + 1600000000000) m w2 v2
    second-carried {i} {j} pairs far sine enough few =
        subst (λ (n : Matrix). Carries (i + j + 1600000000000) n w2 v2) (found-is v1 v2 w1 w2 m w.found)
        (second-carries v1 v2 w1 w2 (camera-apart v1 v2 w1 w2 m w.found) (sky-apart v1 v2 w1 w2 m w.found)
        (w.units w.first w.first-seen) (w.units w.second w.second-seen)
        (w.stars (at words w.first) w.first-star) (w.stars (at words w.second) w.second-star)
        pairs far sine enough few)

    -- ---- by the tolerance: names that fit, as those of every accepted search do

    two : w.first ≡ w.second → ⊥
    two e =
        let a = camera-apart v1 v2 w1 w2 m w.found in
        let b : Apart v1 v1 = subst (λ (n : ℕ). Apart v1 (triple_at directions n)) (sym e) a in
        omega (arith, b.apart, (close-is v1 v1).0 (same-close v1))

    exchanged : (a b c d : Vec3) → pos 0 -ℤ (dot_of a b -ℤ dot_of c d) ≡ dot_of d c -ℤ dot_of b a
    exchanged a b c d =
        let f = vec 0 in let g = vec 3 in let h = vec 6 in let i = vec 9 in
        ring (a ▹ b ▹ c ▹ d ▹ []) (num (pos 0) ⊖ (f ⊙ g ⊖ h ⊙ i)) (i ⊙ h ⊖ g ⊙ f) tt

    pub second-by-tolerance :
        {j s : ℕ} (needed tolerance : ℕ) → FitsHere (setup_for directions bytes needed tolerance) directions (stars_of bytes) words → 0 < s →
        (s + 9000000000) * (s + 9000000000) + nat_abs (dot_of w2 w1) * nat_abs (dot_of w2 w1) + 300000000000000000000000000000
        ≤ 1000000000000000000000000000000000000 →
        5600000000000000000000000000000 + tolerance * 2000006000000000000 ≤ s * j → j ≤ 10000000000000000 → Carries (tolerance + j + 1600000000000) m w2 v2
    unfolding agreement pair_dot
    second-by-tolerance needed tolerance fits =
        let agreed = fits.agreed w.first w.second w.first-seen w.second-seen two w.first-star w.second-star in
        let near : Within tolerance (dot_of v1 v2 -ℤ dot_of w1 w2) = record { within = agreeing-near (dot_of v1 v2) (dot_of w1 w2) tolerance agreed } in
        second-carried (within-as (exchanged v1 v2 w1 w2) (wider (within-sub (within-pos 0) near) (omega arith)))
