-- How large dot and cross products can be, and that a dot product does not mind the order of its vectors. Assumes nothing.
use Rattle.std.specs.Prelude.{◌≡◌, ℕ, ◌+◌, ◌*◌, ◌≤◌, List, ℤ, ◌+ℤ◌}
use Rattle.std.proofs.Math.IntN.{*ℤ_comm}
use Rattle.numbers.specs.Within.{Within, wider, within-add, within-mul, within-sub}
use Rattle.vectors.specs.declared.Vec3.{Vec3}
use Rattle.vectors.specs.Vectors.{Within3, dot_of, cross_of}
use Rattle.vectors.specs.Triples.{AllWithin, triple_at, pair_dot}

pub wider3 : {a b : ℕ} {v : Vec3} → Within3 a v → a ≤ b → Within3 b v
wider3 h k = record { x = wider h.x k; y = wider h.y k; z = wider h.z k }

pub dot-within : {p q : ℕ} {a b : Vec3} → Within3 p a → Within3 q b → Within (p * q + p * q + p * q) (dot_of a b)
dot-within h k = within-add (within-add (within-mul h.x k.x) (within-mul h.y k.y)) (within-mul h.z k.z)

pub cross-within : {p q : ℕ} {a b : Vec3} → Within3 p a → Within3 q b → Within3 (p * q + p * q) (cross_of a b)
cross-within h k =
    record {
      x = within-sub (within-mul h.y k.z) (within-mul h.z k.y);
      y = within-sub (within-mul h.z k.x) (within-mul h.x k.z);
      z = within-sub (within-mul h.x k.y) (within-mul h.y k.x);
    }

pub dot-comm : (a b : Vec3) → dot_of a b ≡ dot_of b a
dot-comm a b = λ i. *ℤ_comm a.x b.x i +ℤ *ℤ_comm a.y b.y i +ℤ *ℤ_comm a.z b.z i

pub triple-within : {b : ℕ} {list : List ℤ} → AllWithin b list → (i : ℕ) → Within3 b (triple_at list i)
unfolding triple_at
triple-within h i = record { x = h.at _; y = h.at _; z = h.at _ }

pub pair-within : {list : List ℤ} → AllWithin 1000000000 list → (i j : ℕ) → Within 3000000000000000000 (pair_dot list i j)
unfolding pair_dot
pair-within h i j = dot-within (triple-within h i) (triple-within h j)

pub pair_comm : (list : List ℤ) (i j : ℕ) → pair_dot list i j ≡ pair_dot list j i
unfolding pair_dot
pair_comm list i j = dot-comm (triple_at list i) (triple_at list j)
