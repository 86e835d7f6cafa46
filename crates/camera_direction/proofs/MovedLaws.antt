-- What an error of a position does to its direction: where both numbers of the position are off by at most p, in 256ths of a pixel, each number of the
-- direction is off by at most 3 x 10^9 p / F and 2, all rounding included. Assumes nothing.
use Rattle.std.specs.Prelude.{[], ◌∷◌, ◌≡◌, ℕ, ◌+◌, ◌*◌, ◌≤◌, ◌<◌, ℤ, pos, ◌+ℤ◌, ◌-ℤ◌, ◌*ℤ◌}
use Rattle.std.proofs.Common.{ap, ◌∙◌, le_refl, le_trans, mul-le-mul, mul-le-mul_left, arith}
use Rattle.std.proofs.Math.Decide.{dec_le}
use Rattle.std.proofs.Math.IntN.{nat_abs, +ℤ_invr}
use Rattle.numbers.specs.Abs.{abs-add}
use Rattle.numbers.specs.Within.{Within, wider, within-add, within-sub, within-mul}
use Rattle.numbers.specs.Root.{root_is}
use Rattle.numbers.specs.Solver.{var, num, ◌⊕◌, ◌⊖◌, ◌⊗◌}
use Rattle.numbers.proofs.Solver.{ring}
use Rattle.numbers.specs.Split.{split, within-as, within_none, within-pos, cut}
use Rattle.numbers.specs.Squares.{apart-within}
use Rattle.vectors.specs.Vectors.{Within3}
use Rattle.vectors.specs.Symbols.{less_of}
use Rattle.camera_direction.specs.Position.{square, norm_of, scaled_of, toward_of}
use Rattle.camera_direction.specs.PositionLaws.{covers-x, covers-y, covers-f}

-- ---- N

-- a and b larger by no more than p make the root larger by no more than 512 p
not-past : (p a b s n m : ℕ) → 256 * a ≤ n → 256 * b ≤ n → 65536 * (a * a + b * b + s) < (n + 1) * (n + 1)
    → m * m ≤ 65536 * ((a + p) * (a + p) + (b + p) * (b + p) + s) → Dec (m ≤ n + 512 * p) → m ≤ n + 512 * p
not-past p a b s n m h k above below (yes l) = l
not-past p a b s n m h k above below (no l) =
    let o : n + 512 * p + 1 ≤ m = omega arith in
    omega (arith, mul-le-mul o o, mul-le-mul_left p h, mul-le-mul_left p k)

sized : {p : ℕ} (z y : ℤ) → Within p (z -ℤ y) → nat_abs z ≤ nat_abs y + p
sized z y w = omega (arith, w.within, ap nat_abs (again z y), abs-add y (z -ℤ y))
  where
    again : (z y : ℤ) → y +ℤ (z -ℤ y) ≡ z
    again z y = ring (z ∷ (y ∷ [])) (var 1 ⊕ (var 0 ⊖ var 1)) (var 0) tt

-- a sum of squares grows with what is squared
squares-le : {a b c d : ℕ} (s : ℕ) → a ≤ c → b ≤ d → a * a + b * b + s ≤ c * c + d * d + s
squares-le s h k = omega (arith, mul-le-mul h h, mul-le-mul k k)

turned : (z y : ℤ) → pos 0 -ℤ (z -ℤ y) ≡ y -ℤ z
turned z y = ring (z ∷ (y ∷ [])) (num (pos 0) ⊖ (var 0 ⊖ var 1)) (var 1 ⊖ var 0) tt

other : {p : ℕ} (z y : ℤ) → Within p (z -ℤ y) → Within p (y -ℤ z)
other z y w = within-as (turned z y) (wider (within-sub (within-pos 0) w) (omega arith))

module _ (p : ℕ) (x y x' y' f : ℤ) (across : Within p (x -ℤ x')) (down : Within p (y -ℤ y')) where
  pub norm-moved : norm_of x y f ≤ norm_of x' y' f + 512 * p
  unfolding norm_of
  norm-moved =
      let a = nat_abs x' in
      let b = nat_abs y' in
      let r = root_is (65536 * (square x + square y + square f)) in
      let q = root_is (65536 * (square x' + square y' + square f)) in
      not-past p a b (square f) (norm_of x' y' f) (norm_of x y f) (covers-x x' y' f) (covers-y x' y' f) q.above
      (le_trans r.below (mul-le-mul_left 65536 (squares-le (square f) (sized x x' across) (sized y y' down))))
      (dec_le _ _)

-- ---- a number of the direction

-- n n' times the difference of two quotients by n and n'; the last two terms are 0
quotients :
    (a z z' n n' q r q' r' : ℤ) →
    a *ℤ (z *ℤ (n' -ℤ n) +ℤ (z -ℤ z') *ℤ n) -ℤ n' *ℤ r +ℤ n *ℤ r' +ℤ n' *ℤ (n *ℤ q +ℤ r -ℤ a *ℤ z) -ℤ n *ℤ (n' *ℤ q' +ℤ r' -ℤ a *ℤ z') ≡ n *ℤ n' *ℤ (q -ℤ q')
quotients a z z' n n' q r q' r' =
    let s = var 0 in let t = var 1 in let u = var 2 in let m = var 3 in let o = var 4 in
    ring (a ∷ (z ∷ (z' ∷ (n ∷ (n' ∷ (q ∷ (r ∷ (q' ∷ (r' ∷ [])))))))))
    (s ⊗ (t ⊗ (o ⊖ m) ⊕ (t ⊖ u) ⊗ m) ⊖ o ⊗ var 6 ⊕ m ⊗ var 8 ⊕ o ⊗ (m ⊗ var 5 ⊕ var 6 ⊖ s ⊗ t) ⊖ m ⊗ (o ⊗ var 7 ⊕ var 8 ⊖ s ⊗ u))
    (m ⊗ o ⊗ (var 5 ⊖ var 7)) tt

none : {u v : ℤ} → u ≡ v → v -ℤ u ≡ pos 0
none {v} g = ap (λ (w : ℤ). v -ℤ w) g ∙ +ℤ_invr v

module _ (p e n n' : ℕ) (z z' : ℤ) (off : Within p (z -ℤ z')) (covered : 256 * nat_abs z ≤ n) (up : n ≤ n' + 512 * p) (down : n' ≤ n + 512 * p)
    (long : 768000000000 * p ≤ n' * e) where
  scaled-moved : 0 < n → 0 < n' → Within (e + 2) (scaled_of z n -ℤ scaled_of z' n')
  scaled-moved h k =
      let i = split h (pos 256000000000 *ℤ z) in
      let j = split k (pos 256000000000 *ℤ z') in
      cut (positive h k)
      (quotients (pos 256000000000) z z' (pos n) (pos n') (scaled_of z n) i.rest (scaled_of z' n') j.rest)
      (within-sub
      (within-add
      (within-add
      (within-sub
      (within-mul (within-pos 256000000000)
      (within-add (within-mul {a = nat_abs z} {x = z} (record { within = le_refl (nat_abs z) }) (apart-within n' n down up)) (within-mul off (within-pos n))))
      (within-mul (within-pos n') i.small))
      (within-mul (within-pos n) j.small))
      (within-mul (within-pos n') (within_none (none i.is))))
      (within-mul (within-pos n) (within_none (none j.is))))
      (omega (arith, mul-le-mul_left (512000000000 * p) covered, mul-le-mul_left n long))
    where
      positive : 0 < n → 0 < n' → 0 < n * n'
      positive h k = let a : 1 ≤ n = omega arith in let b : 1 ≤ n' = omega arith in omega (arith, mul-le-mul a b)

-- THE DIRECTION of a position that is off by at most p
pub toward-moved :
    (p e : ℕ) (x y x' y' f : ℤ) →
    Within p (x -ℤ x') → Within p (y -ℤ y') → 0 < nat_abs f → 3000000000 * p ≤ nat_abs f * e → Within3 (e + 2) (less_of (toward_of x y f) (toward_of x' y' f))
unfolding toward_of
toward-moved p e x y x' y' f across down h long =
    let n = norm_of x y f in
    let m = norm_of x' y' f in
    let up = norm-moved p x y x' y' f across down in
    let back = norm-moved p x' y' x y f (other x x' across) (other y y' down) in
    let l : 768000000000 * p ≤ m * e = le_trans (omega arith) (mul-le-mul (covers-f x' y' f) (le_refl e)) in
    let i : 0 < n = omega (arith, covers-f x y f) in
    let j : 0 < m = omega (arith, covers-f x' y' f) in
    record {
      x = scaled-moved p e n m x x' across (covers-x x y f) up back l i j;
      y = scaled-moved p e n m y y' down (covers-y x y f) up back l i j;
      z = scaled-moved p e n m f f (wider (within_none (+ℤ_invr f)) (omega arith)) (covers-f x y f) up back l i j;
    }
