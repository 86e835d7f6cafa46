-- The matrix: row r and column s have the sum over the three axes of component r on the camera's side times component s on the catalogue's, over 10^9.
-- Assumes nothing.
use Rattle.std.specs.Prelude.{ℕ, ℤ, pos, ◌+ℤ◌, ◌*ℤ◌}
use Rattle.std.specs.Int.Signed.{quot_z}
use Rattle.vectors.specs.declared.Vec3.{Vec3}
use Rattle.vectors.specs.Vectors.{Within3}
use Rattle.attitude.specs.declared.side.Axes.{Axes}
use Rattle.attitude.specs.declared.Matrix.{Matrix}

-- the entry, from t1[r], t2[r], t3[r] and t1'[s], t2'[s], t3'[s]
abbrev pub entry_by : ℤ → ℤ → ℤ → ℤ → ℤ → ℤ → ℤ
entry_by a b c x y z = quot_z (a *ℤ x +ℤ b *ℤ y +ℤ c *ℤ z) (pos 1000000000)

-- the row, from t1[r], t2[r], t3[r] and the catalogue side
abbrev pub row_by : ℤ → ℤ → ℤ → Axes → Vec3
row_by a b c sky =
    record {
      x = entry_by a b c sky.t1.x sky.t2.x sky.t3.x;
      y = entry_by a b c sky.t1.y sky.t2.y sky.t3.y;
      z = entry_by a b c sky.t1.z sky.t2.z sky.t3.z;
    }

abbrev pub product_of : Axes → Axes → Matrix
product_of camera sky =
    record {
      row0 = row_by camera.t1.x camera.t2.x camera.t3.x sky;
      row1 = row_by camera.t1.y camera.t2.y camera.t3.y sky;
      row2 = row_by camera.t1.z camera.t2.z camera.t3.z sky;
    }

-- how large the axes of a side are
pub record AxesWithin (t : Axes) : Type 0 where
  pub t1 : Within3 1000000000 t.t1
  pub t2 : Within3 1000000000 t.t2
  pub t3 : Within3 2000000000 t.t3

-- each entry of a matrix is within b of 0
pub record MatrixWithin (b : ℕ) (m : Matrix) : Type 0 where
  pub row0 : Within3 b m.row0
  pub row1 : Within3 b m.row1
  pub row2 : Within3 b m.row2
