-- Vectors as the solver of `numbers` reads them: three expressions for the three numbers, and what the definitions of dot and cross product make of such.
-- Each reading stands beside the definition that it reads. Assumes nothing.
use Rattle.std.specs.Prelude.{List, ◌∷◌, ℕ, ◌+◌, ℤ, ◌+ℤ◌, ◌-ℤ◌, ◌*ℤ◌}
use Rattle.numbers.specs.Solver.{Ex, var, ◌⊕◌, ◌⊖◌, ◌⊗◌}
use Rattle.vectors.specs.declared.Vec3.{Vec3}
use Rattle.vectors.specs.Vectors.{dot_of, cross_of}

pub record Ex3 : Type 0 where
  pub x : Ex
  pub y : Ex
  pub z : Ex

-- the numbers of a vector in front of a list, and the vector that so stands at i, i + 1 and i + 2
infixr 5 ◌▹◌
abbrev pub ◌▹◌ : Vec3 → List ℤ → List ℤ
v ▹ xs = v.x ∷ (v.y ∷ (v.z ∷ xs))

abbrev pub vec : ℕ → Ex3
vec i = record { x = var i; y = var (i + 1); z = var (i + 2) }

-- dot_of
infixl 8 ◌⊙◌
abbrev pub ◌⊙◌ : Ex3 → Ex3 → Ex
a ⊙ b = a.x ⊗ b.x ⊕ a.y ⊗ b.y ⊕ a.z ⊗ b.z

-- cross_of
abbrev pub cross : Ex3 → Ex3 → Ex3
cross a b = record { x = a.y ⊗ b.z ⊖ a.z ⊗ b.y; y = a.z ⊗ b.x ⊖ a.x ⊗ b.z; z = a.x ⊗ b.y ⊖ a.y ⊗ b.x }

-- n v
abbrev pub times_of : ℤ → Vec3 → Vec3
times_of n v = record { x = n *ℤ v.x; y = n *ℤ v.y; z = n *ℤ v.z }

abbrev pub times : Ex → Ex3 → Ex3
times n v = record { x = n ⊗ v.x; y = n ⊗ v.y; z = n ⊗ v.z }

-- n q + r
abbrev pub more_of : ℤ → Vec3 → Vec3 → Vec3
more_of n q r = record { x = n *ℤ q.x +ℤ r.x; y = n *ℤ q.y +ℤ r.y; z = n *ℤ q.z +ℤ r.z }

abbrev pub more : Ex → Ex3 → Ex3 → Ex3
more n q r = record { x = n ⊗ q.x ⊕ r.x; y = n ⊗ q.y ⊕ r.y; z = n ⊗ q.z ⊕ r.z }

-- a less b
abbrev pub less_of : Vec3 → Vec3 → Vec3
less_of a b = record { x = a.x -ℤ b.x; y = a.y -ℤ b.y; z = a.z -ℤ b.z }

abbrev pub less : Ex3 → Ex3 → Ex3
less a b = record { x = a.x ⊖ b.x; y = a.y ⊖ b.y; z = a.z ⊖ b.z }

-- three products
abbrev pub sum_of : ℤ → ℤ → ℤ → ℤ → ℤ → ℤ → ℤ
sum_of a b c x y z = a *ℤ x +ℤ b *ℤ y +ℤ c *ℤ z

abbrev pub sum : Ex → Ex → Ex → Ex → Ex → Ex → Ex
sum a b c x y z = a ⊗ x ⊕ b ⊗ y ⊕ c ⊗ z

-- a t + b u + c v
abbrev pub mix_of : ℤ → ℤ → ℤ → Vec3 → Vec3 → Vec3 → Vec3
mix_of a b c t u v = record { x = sum_of a b c t.x u.x v.x; y = sum_of a b c t.y u.y v.y; z = sum_of a b c t.z u.z v.z }

abbrev pub mix : Ex → Ex → Ex → Ex3 → Ex3 → Ex3 → Ex3
mix a b c t u v = record { x = sum a b c t.x u.x v.x; y = sum a b c t.y u.y v.y; z = sum a b c t.z u.z v.z }

-- the determinant of three rows
abbrev pub det_of : Vec3 → Vec3 → Vec3 → ℤ
det_of p q r = dot_of p (cross_of q r)

abbrev pub det : Ex3 → Ex3 → Ex3 → Ex
det p q r = p ⊙ cross q r

-- the numbers moved up by one, the first to the end: what holds of x and y of any vector so holds of y and z, and of z and x
abbrev pub turn_of : Vec3 → Vec3
turn_of v = record { x = v.y; y = v.z; z = v.x }
