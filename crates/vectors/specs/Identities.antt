-- What always holds of dot products, cross products and determinants, each by the solver. Assumes nothing.
use Rattle.std.specs.Prelude.{◌≡◌, [], ◌∷◌, ℤ, pos, ◌+ℤ◌, ◌-ℤ◌, ◌*ℤ◌}
use Rattle.numbers.specs.Solver.{var, num, ◌⊕◌, ◌⊖◌, ◌⊗◌}
use Rattle.numbers.proofs.Solver.{ring}
use Rattle.vectors.specs.declared.Vec3.{Vec3}
use Rattle.vectors.specs.Vectors.{dot_of, cross_of}
use Rattle.vectors.specs.Symbols.{vec, ◌▹◌, ◌⊙◌, cross, times_of, times, more_of, more, less_of, less, mix_of, mix, det_of, det, turn_of}

-- ---- a cross product stands upright on both of its vectors

pub upright-first : (a b : Vec3) → dot_of a (cross_of a b) ≡ pos 0
upright-first a b = ring (a ▹ b ▹ []) (vec 0 ⊙ cross (vec 0) (vec 3)) (num (pos 0)) tt

pub upright-second : (a b : Vec3) → dot_of b (cross_of a b) ≡ pos 0
upright-second a b = ring (a ▹ b ▹ []) (vec 3 ⊙ cross (vec 0) (vec 3)) (num (pos 0)) tt

-- the square of its length is what the square of the dot product leaves of the two lengths' squares
pub cross-square : (a b : Vec3) → dot_of (cross_of a b) (cross_of a b) ≡ dot_of a a *ℤ dot_of b b -ℤ dot_of a b *ℤ dot_of a b
cross-square a b =
    let v = vec 0 in let w = vec 3 in
    ring (a ▹ b ▹ []) (cross v w ⊙ cross v w) (v ⊙ v ⊗ w ⊙ w ⊖ v ⊙ w ⊗ v ⊙ w) tt

-- ---- dot products

pub dot-times : (n : ℤ) (a b : Vec3) → dot_of a (times_of n b) ≡ n *ℤ dot_of a b
dot-times n a b = ring (n ∷ (a ▹ b ▹ [])) (vec 1 ⊙ times (var 0) (vec 4)) (var 0 ⊗ vec 1 ⊙ vec 4) tt

-- with p q + r, without what r adds
pub dot-rest : (p : ℤ) (a q r : Vec3) → dot_of a (more_of p q r) -ℤ dot_of a r ≡ p *ℤ dot_of a q
dot-rest p a q r = ring (p ∷ (a ▹ q ▹ r ▹ [])) (vec 1 ⊙ more (var 0) (vec 4) (vec 7) ⊖ vec 1 ⊙ vec 7) (var 0 ⊗ vec 1 ⊙ vec 4) tt

-- the same against p e
pub dot-rest-from : (p e : ℤ) (a q r : Vec3) → dot_of a (more_of p q r) -ℤ p *ℤ e -ℤ dot_of a r ≡ p *ℤ (dot_of a q -ℤ e)
dot-rest-from p e a q r =
    ring (p ∷ (e ∷ (a ▹ q ▹ r ▹ []))) (vec 2 ⊙ more (var 0) (vec 5) (vec 8) ⊖ var 0 ⊗ var 1 ⊖ vec 2 ⊙ vec 8) (var 0 ⊗ (vec 2 ⊙ vec 5 ⊖ var 1)) tt

pub dot-turn : (a b : Vec3) → dot_of a b ≡ dot_of (turn_of a) (turn_of b)
dot-turn a b = ring (a ▹ b ▹ []) (vec 0 ⊙ vec 3) (var 1 ⊗ var 4 ⊕ var 2 ⊗ var 5 ⊕ var 0 ⊗ var 3) tt

-- ---- differences

-- of the dot products of two vectors and of two others
pub dot-moved :
    (a b u v : Vec3) → dot_of (less_of a u) v +ℤ dot_of u (less_of b v) +ℤ dot_of (less_of a u) (less_of b v) ≡ dot_of a b -ℤ dot_of u v
dot-moved a b u v =
    let f = vec 0 in let g = vec 3 in let h = vec 6 in let i = vec 9 in
    ring (a ▹ b ▹ u ▹ v ▹ []) (less f h ⊙ i ⊕ h ⊙ less g i ⊕ less f h ⊙ less g i) (f ⊙ g ⊖ h ⊙ i) tt

-- and of the determinants of three
pub det-moved :
    (a b c u v w : Vec3) →
    det_of (less_of a u) v w +ℤ det_of u (less_of b v) w +ℤ det_of u v (less_of c w)
    +ℤ (det_of (less_of a u) (less_of b v) w +ℤ det_of (less_of a u) v (less_of c w) +ℤ det_of u (less_of b v) (less_of c w))
    +ℤ det_of (less_of a u) (less_of b v) (less_of c w) ≡
    det_of a b c -ℤ det_of u v w
det-moved a b c u v w =
    let f = vec 9 in let g = vec 12 in let h = vec 15 in
    let i = less (vec 0) f in let j = less (vec 3) g in let k = less (vec 6) h in
    ring (a ▹ b ▹ c ▹ u ▹ v ▹ w ▹ [])
    (det i g h ⊕ det f j h ⊕ det f g k ⊕ (det i j h ⊕ det i g k ⊕ det f j k) ⊕ det i j k)
    (det (vec 0) (vec 3) (vec 6) ⊖ det f g h) tt

pub through : (x y z : ℤ) → x -ℤ y +ℤ (y -ℤ z) ≡ x -ℤ z
through x y z = ring (x ∷ (y ∷ (z ∷ []))) (var 0 ⊖ var 1 ⊕ (var 1 ⊖ var 2)) (var 0 ⊖ var 2) tt

-- ---- the determinant of a product of two matrices, each by its columns

pub det-product :
    (a b c t u v : Vec3) →
    det_of (mix_of a.x b.x c.x t u v) (mix_of a.y b.y c.y t u v) (mix_of a.z b.z c.z t u v) ≡
    dot_of c (cross_of a b) *ℤ dot_of v (cross_of t u)
det-product a b c t u v =
    let f = vec 0 in let g = vec 3 in let h = vec 6 in
    let i = vec 9 in let j = vec 12 in let k = vec 15 in
    ring (a ▹ b ▹ c ▹ t ▹ u ▹ v ▹ [])
    (det (mix f.x g.x h.x i j k) (mix f.y g.y h.y i j k) (mix f.z g.z h.z i j k))
    ((h ⊙ cross f g) ⊗ (k ⊙ cross i j)) tt
