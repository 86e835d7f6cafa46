-- The identities of a side's axes and of the matrix that its accuracy rests on: each says that a power of 10^9 times what is to be small is a sum of terms
-- that are. n stands for 10^9. All are by the solver. Assumes nothing.
use Rattle.std.specs.Prelude.{◌≡◌, [], ◌∷◌, ℤ, pos, ◌+ℤ◌, ◌-ℤ◌, ◌*ℤ◌}
use Rattle.numbers.specs.Solver.{var, ◌⊕◌, ◌⊖◌, ◌⊗◌}
use Rattle.numbers.proofs.Solver.{ring}
use Rattle.vectors.specs.declared.Vec3.{Vec3}
use Rattle.vectors.specs.Vectors.{dot_of, cross_of}
use Rattle.vectors.specs.Symbols.{vec, ◌▹◌, ◌⊙◌, cross, more_of, more, sum_of, sum, mix_of, mix, det_of, det}

-- ---- a vector's dot product with a t + b u + c v

-- where t is to be the vector itself, n long
pub dot-mix :
    (n a b c : ℤ) (w t u v : Vec3) →
    a *ℤ (dot_of w t -ℤ n *ℤ n) +ℤ b *ℤ dot_of w u +ℤ c *ℤ dot_of w v ≡ dot_of w (mix_of a b c t u v) -ℤ n *ℤ (n *ℤ a)
dot-mix n a b c w t u v =
    let one = var 0 in
    ring (n ∷ (a ∷ (b ∷ (c ∷ (w ▹ t ▹ u ▹ v ▹ [])))))
    (var 1 ⊗ (vec 4 ⊙ vec 7 ⊖ one ⊗ one) ⊕ var 2 ⊗ vec 4 ⊙ vec 10 ⊕ var 3 ⊗ vec 4 ⊙ vec 13)
    (vec 4 ⊙ mix (var 1) (var 2) (var 3) (vec 7) (vec 10) (vec 13) ⊖ one ⊗ (one ⊗ var 1)) tt

-- ---- the third axis c of a side: n c + s is the cross product of the first two, a and b

-- its length against that of the first; the last of the terms is 0
pub third-square :
    (n : ℤ) (a b c s : Vec3) →
    n *ℤ n *ℤ (dot_of b b -ℤ n *ℤ n) +ℤ (dot_of a a -ℤ n *ℤ n) *ℤ (dot_of b b -ℤ n *ℤ n) -ℤ dot_of a b *ℤ dot_of a b
    -ℤ n *ℤ (dot_of c s +ℤ dot_of c s) -ℤ dot_of s s
    +ℤ (dot_of (more_of n c s) (more_of n c s) -ℤ dot_of (cross_of a b) (cross_of a b)) ≡
    n *ℤ n *ℤ (dot_of c c -ℤ dot_of a a)
third-square n t u v w =
    let k = var 0 in
    let a = vec 1 in
    let b = vec 4 in
    let c = vec 7 in
    let s = vec 10 in
    let α = a ⊙ a ⊖ k ⊗ k in
    let β = b ⊙ b ⊖ k ⊗ k in
    ring (n ∷ (t ▹ u ▹ v ▹ w ▹ []))
    (k ⊗ k ⊗ β ⊕ α ⊗ β ⊖ a ⊙ b ⊗ a ⊙ b ⊖ k ⊗ (c ⊙ s ⊕ c ⊙ s) ⊖ s ⊙ s ⊕ (more k c s ⊙ more k c s ⊖ cross a b ⊙ cross a b))
    (k ⊗ k ⊗ (c ⊙ c ⊖ a ⊙ a)) tt

-- the first and the last of three that come to d
pub outer-two : (p q r d : ℤ) → p +ℤ q +ℤ r -ℤ d +ℤ (d -ℤ q) ≡ p +ℤ r
outer-two p q r d = ring (p ∷ (q ∷ (r ∷ (d ∷ [])))) (var 0 ⊕ var 1 ⊕ var 2 ⊖ var 3 ⊕ (var 3 ⊖ var 1)) (var 0 ⊕ var 2) tt

-- the three axes, row by row: a row with itself
pub row_same :
    (n : ℤ) (a b c s : Vec3) →
    (dot_of a a -ℤ n *ℤ n) *ℤ (n *ℤ n -ℤ b.x *ℤ b.x) +ℤ (dot_of b b -ℤ n *ℤ n) *ℤ (n *ℤ n -ℤ a.x *ℤ a.x) +ℤ (dot_of a a -ℤ n *ℤ n) *ℤ (dot_of b b -ℤ n *ℤ n)
    -ℤ dot_of a b *ℤ dot_of a b +ℤ dot_of a b *ℤ (a.x *ℤ b.x +ℤ b.x *ℤ a.x) -ℤ n *ℤ (c.x *ℤ s.x +ℤ s.x *ℤ c.x) -ℤ s.x *ℤ s.x
    +ℤ ((more_of n c s).x *ℤ (more_of n c s).x -ℤ (cross_of a b).x *ℤ (cross_of a b).x) ≡
    n *ℤ n *ℤ (a.x *ℤ a.x +ℤ b.x *ℤ b.x +ℤ c.x *ℤ c.x -ℤ n *ℤ n)
row_same n t u v w =
    let k = var 0 in
    let a = vec 1 in
    let b = vec 4 in
    let c = vec 7 in
    let s = vec 10 in
    let α = a ⊙ a ⊖ k ⊗ k in
    let β = b ⊙ b ⊖ k ⊗ k in
    ring (n ∷ (t ▹ u ▹ v ▹ w ▹ []))
    (α ⊗ (k ⊗ k ⊖ b.x ⊗ b.x) ⊕ β ⊗ (k ⊗ k ⊖ a.x ⊗ a.x) ⊕ α ⊗ β
    ⊖ a ⊙ b ⊗ a ⊙ b ⊕ a ⊙ b ⊗ (a.x ⊗ b.x ⊕ b.x ⊗ a.x) ⊖ k ⊗ (c.x ⊗ s.x ⊕ s.x ⊗ c.x) ⊖ s.x ⊗ s.x
    ⊕ ((more k c s).x ⊗ (more k c s).x ⊖ (cross a b).x ⊗ (cross a b).x))
    (k ⊗ k ⊗ (a.x ⊗ a.x ⊕ b.x ⊗ b.x ⊕ c.x ⊗ c.x ⊖ k ⊗ k)) tt

-- and with the next
pub row_next :
    (n : ℤ) (a b c s : Vec3) →
    dot_of a b *ℤ (a.x *ℤ b.y +ℤ b.x *ℤ a.y) -ℤ (dot_of b b -ℤ n *ℤ n) *ℤ (a.x *ℤ a.y) -ℤ (dot_of a a -ℤ n *ℤ n) *ℤ (b.x *ℤ b.y)
    -ℤ n *ℤ (c.x *ℤ s.y +ℤ s.x *ℤ c.y) -ℤ s.x *ℤ s.y
    +ℤ ((more_of n c s).x *ℤ (more_of n c s).y -ℤ (cross_of a b).x *ℤ (cross_of a b).y) ≡
    n *ℤ n *ℤ (a.x *ℤ a.y +ℤ b.x *ℤ b.y +ℤ c.x *ℤ c.y)
row_next n t u v w =
    let k = var 0 in
    let a = vec 1 in
    let b = vec 4 in
    let c = vec 7 in
    let s = vec 10 in
    ring (n ∷ (t ▹ u ▹ v ▹ w ▹ []))
    (a ⊙ b ⊗ (a.x ⊗ b.y ⊕ b.x ⊗ a.y) ⊖ (b ⊙ b ⊖ k ⊗ k) ⊗ (a.x ⊗ a.y) ⊖ (a ⊙ a ⊖ k ⊗ k) ⊗ (b.x ⊗ b.y)
    ⊖ k ⊗ (c.x ⊗ s.y ⊕ s.x ⊗ c.y) ⊖ s.x ⊗ s.y
    ⊕ ((more k c s).x ⊗ (more k c s).y ⊖ (cross a b).x ⊗ (cross a b).y))
    (k ⊗ k ⊗ (a.x ⊗ a.y ⊕ b.x ⊗ b.y ⊕ c.x ⊗ c.y)) tt

-- ---- two rows q and q' of the matrix, where n q + r is a t + b u + c v and n q' + r' is x t + y u + z v: their dot product against d

pub row-product :
    (n d a b c x y z : ℤ) (t u v q r q' r' : Vec3) →
    n *ℤ n *ℤ (a *ℤ x +ℤ b *ℤ y +ℤ c *ℤ z -ℤ d) +ℤ (a *ℤ x +ℤ c *ℤ z) *ℤ (dot_of t t -ℤ n *ℤ n) +ℤ b *ℤ y *ℤ (dot_of u u -ℤ n *ℤ n)
    +ℤ c *ℤ z *ℤ (dot_of v v -ℤ dot_of t t)
    +ℤ (a *ℤ y +ℤ b *ℤ x) *ℤ dot_of t u +ℤ (a *ℤ z +ℤ c *ℤ x) *ℤ dot_of t v +ℤ (b *ℤ z +ℤ c *ℤ y) *ℤ dot_of u v
    -ℤ n *ℤ (dot_of q r' +ℤ dot_of r q') -ℤ dot_of r r'
    +ℤ (dot_of (more_of n q r) (more_of n q' r') -ℤ dot_of (mix_of a b c t u v) (mix_of x y z t u v)) ≡
    n *ℤ n *ℤ (dot_of q q' -ℤ d)
row-product n d a b c x y z t u v q r q' r' =
    let k = var 0 in
    let a' = var 2 in let b' = var 3 in let c' = var 4 in
    let x' = var 5 in let y' = var 6 in let z' = var 7 in
    let f = vec 8 in let g = vec 11 in let h = vec 14 in
    let i = vec 17 in let j = vec 20 in let l = vec 23 in let m = vec 26 in
    ring (n ∷ (d ∷ (a ∷ (b ∷ (c ∷ (x ∷ (y ∷ (z ∷ (t ▹ u ▹ v ▹ q ▹ r ▹ q' ▹ r' ▹ [])))))))))
    (k ⊗ k ⊗ (a' ⊗ x' ⊕ b' ⊗ y' ⊕ c' ⊗ z' ⊖ var 1) ⊕ (a' ⊗ x' ⊕ c' ⊗ z') ⊗ (f ⊙ f ⊖ k ⊗ k) ⊕ b' ⊗ y' ⊗ (g ⊙ g ⊖ k ⊗ k) ⊕ c' ⊗ z' ⊗ (h ⊙ h ⊖ f ⊙ f)
    ⊕ (a' ⊗ y' ⊕ b' ⊗ x') ⊗ f ⊙ g ⊕ (a' ⊗ z' ⊕ c' ⊗ x') ⊗ f ⊙ h ⊕ (b' ⊗ z' ⊕ c' ⊗ y') ⊗ g ⊙ h
    ⊖ k ⊗ (i ⊙ m ⊕ j ⊙ l) ⊖ j ⊙ m
    ⊕ (more k i j ⊙ more k l m ⊖ mix a' b' c' f g h ⊙ mix x' y' z' f g h))
    (k ⊗ k ⊗ (i ⊙ l ⊖ var 1)) tt

-- ---- determinants

-- of three rows q, where that of the rows n q + r is the product of d and e
pub det-rest :
    (n d e : ℤ) (q r q' r' q'' r'' : Vec3) →
    (d -ℤ n *ℤ n *ℤ n) *ℤ (e -ℤ n *ℤ n *ℤ n) -ℤ n *ℤ n *ℤ (det_of r q' q'' +ℤ det_of q r' q'' +ℤ det_of q q' r'')
    -ℤ n *ℤ (det_of r r' q'' +ℤ det_of r q' r'' +ℤ det_of q r' r'') -ℤ det_of r r' r''
    +ℤ (det_of (more_of n q r) (more_of n q' r') (more_of n q'' r'') -ℤ d *ℤ e) ≡
    n *ℤ n *ℤ n *ℤ (det_of q q' q'' -ℤ n *ℤ n *ℤ n -ℤ (d -ℤ n *ℤ n *ℤ n) -ℤ (e -ℤ n *ℤ n *ℤ n))
det-rest n d e q r q' r' q'' r'' =
    let k = var 0 in let c = k ⊗ k ⊗ k in let l = var 1 in let m = var 2 in
    let a = vec 3 in let b = vec 6 in let f = vec 9 in let g = vec 12 in let h = vec 15 in let i = vec 18 in
    ring (n ∷ (d ∷ (e ∷ (q ▹ r ▹ q' ▹ r' ▹ q'' ▹ r'' ▹ []))))
    ((l ⊖ c) ⊗ (m ⊖ c) ⊖ k ⊗ k ⊗ (det b f h ⊕ det a g h ⊕ det a f i) ⊖ k ⊗ (det b g h ⊕ det b f i ⊕ det a g i) ⊖ det b g i
    ⊕ (det (more k a b) (more k f g) (more k h i) ⊖ l ⊗ m))
    (c ⊗ (det a f h ⊖ c ⊖ (l ⊖ c) ⊖ (m ⊖ c))) tt

-- a number taken apart and put together
pub parts : (z d e : ℤ) → z -ℤ d -ℤ e +ℤ d +ℤ e ≡ z
parts z d e = ring (z ∷ (d ∷ (e ∷ []))) (var 0 ⊖ var 1 ⊖ var 2 ⊕ var 1 ⊕ var 2) (var 0) tt

-- of the axes of a side
pub det-axes : (n : ℤ) (c s : Vec3) → n *ℤ (dot_of c c -ℤ n *ℤ n) +ℤ dot_of c s ≡ dot_of c (more_of n c s) -ℤ n *ℤ n *ℤ n
det-axes n c s =
    let k = var 0 in
    ring (n ∷ (c ▹ s ▹ [])) (k ⊗ (vec 1 ⊙ vec 1 ⊖ k ⊗ k) ⊕ vec 1 ⊙ vec 4) (vec 1 ⊙ more k (vec 1) (vec 4) ⊖ k ⊗ k ⊗ k) tt

-- ---- a vector v made anew from its dot products with three axes: its x

pub made-x :
    (n : ℤ) (a b c v : Vec3) →
    (sum_of a.x b.x c.x a.x b.x c.x -ℤ n *ℤ n) *ℤ v.x +ℤ sum_of a.x b.x c.x a.y b.y c.y *ℤ v.y
    +ℤ sum_of a.z b.z c.z a.x b.x c.x *ℤ v.z ≡
    sum_of a.x b.x c.x (dot_of v a) (dot_of v b) (dot_of v c) -ℤ n *ℤ n *ℤ v.x
made-x n f g h w =
    let k = var 0 in let a = vec 1 in let b = vec 4 in let c = vec 7 in let v = vec 10 in
    ring (n ∷ (f ▹ g ▹ h ▹ w ▹ []))
    ((sum a.x b.x c.x a.x b.x c.x ⊖ k ⊗ k) ⊗ v.x ⊕ sum a.x b.x c.x a.y b.y c.y ⊗ v.y
    ⊕ sum a.z b.z c.z a.x b.x c.x ⊗ v.z)
    (sum a.x b.x c.x (v ⊙ a) (v ⊙ b) (v ⊙ c) ⊖ k ⊗ k ⊗ v.x) tt

-- the dot product with a t + b u + c v against n n x, where those with t, u and v are to be p, q and r
pub dot-mix-from :
    (n x a b c p q r : ℤ) (w t u v : Vec3) →
    a *ℤ (dot_of w t -ℤ p) +ℤ b *ℤ (dot_of w u -ℤ q) +ℤ c *ℤ (dot_of w v -ℤ r) +ℤ (sum_of a b c p q r -ℤ n *ℤ n *ℤ x) ≡
    dot_of w (mix_of a b c t u v) -ℤ n *ℤ (n *ℤ x)
dot-mix-from n x a b c p q r w t u v =
    let k = var 0 in let d = var 1 in
    let a' = var 2 in let b' = var 3 in let c' = var 4 in
    let p' = var 5 in let q' = var 6 in let r' = var 7 in
    ring (n ∷ (x ∷ (a ∷ (b ∷ (c ∷ (p ∷ (q ∷ (r ∷ (w ▹ t ▹ u ▹ v ▹ [])))))))))
    (a' ⊗ (vec 8 ⊙ vec 11 ⊖ p') ⊕ b' ⊗ (vec 8 ⊙ vec 14 ⊖ q') ⊕ c' ⊗ (vec 8 ⊙ vec 17 ⊖ r') ⊕ (sum a' b' c' p' q' r' ⊖ k ⊗ k ⊗ d))
    (vec 8 ⊙ mix a' b' c' (vec 11) (vec 14) (vec 17) ⊖ k ⊗ (k ⊗ d)) tt
