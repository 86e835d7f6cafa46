-- The sides exchanged: the matrix that carries camera to sky is the transposed one. Assumes nothing.
use Rattle.std.specs.Prelude.{◌≡◌, ℤ, pos, ◌+ℤ◌}
use Rattle.std.proofs.Math.IntN.{*ℤ_comm}
use Rattle.std.specs.Int.Signed.{quot_z}
use Rattle.vectors.specs.declared.Vec3.{Vec3}
use Rattle.attitude.specs.declared.Matrix.{Matrix}
use Rattle.attitude.specs.declared.side.Axes.{Axes}
use Rattle.attitude.specs.Side.{axes_of}
use Rattle.attitude.specs.Entries.{entry_by, product_of}
use Rattle.attitude.specs.Attitude.{matrix_of}

abbrev pub transposed : Matrix → Matrix
transposed m =
    record {
      row0 = record { x = m.row0.x; y = m.row1.x; z = m.row2.x };
      row1 = record { x = m.row0.y; y = m.row1.y; z = m.row2.y };
      row2 = record { x = m.row0.z; y = m.row1.z; z = m.row2.z };
    }

-- the entry in row r, column s, r and s a component each
module _ (t u : Axes) (r s : Vec3 → ℤ) where
  abbrev entry_at : ℤ
  entry_at = entry_by (r t.t1) (r t.t2) (r t.t3) (s u.t1) (s u.t2) (s u.t3)

entry-turned : (t u : Axes) (r s : Vec3 → ℤ) → entry_at u t r s ≡ entry_at t u s r
entry-turned t u r s =
    λ i. quot_z
    (*ℤ_comm (r u.t1) (s t.t1) i +ℤ *ℤ_comm (r u.t2) (s t.t2) i +ℤ *ℤ_comm (r u.t3) (s t.t3) i)
    (pos 1000000000)

product_turned : (t u : Axes) → product_of u t ≡ transposed (product_of t u)
product_turned t u =
    let x : Vec3 → ℤ = λ v. v.x in
    let y : Vec3 → ℤ = λ v. v.y in
    let z : Vec3 → ℤ = λ v. v.z in
    let e = entry-turned t u in
    λ i. record {
      row0 = record { x = e x x i; y = e x y i; z = e x z i };
      row1 = record { x = e y x i; y = e y y i; z = e y z i };
      row2 = record { x = e z x i; y = e z y i; z = e z z i };
    }

pub matrix-turned : (v1 v2 w1 w2 : Vec3) → matrix_of w1 w2 v1 v2 ≡ transposed (matrix_of v1 v2 w1 w2)
unfolding matrix_of
matrix-turned v1 v2 w1 w2 = product_turned (axes_of v1 v2) (axes_of w1 w2)
