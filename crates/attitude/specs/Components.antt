-- The components of a side: x of each of the three axes, then y, then z. Assumes nothing.
use Rattle.numbers.specs.Within.{Within}
use Rattle.vectors.specs.declared.Vec3.{Vec3}
use Rattle.attitude.specs.declared.Matrix.{Matrix}
use Rattle.attitude.specs.declared.side.Axes.{Axes}
use Rattle.attitude.specs.Entries.{entry_by}

-- a row for each component
abbrev pub components_of : Axes → Matrix
components_of t =
    record {
      row0 = record { x = t.t1.x; y = t.t2.x; z = t.t3.x };
      row1 = record { x = t.t1.y; y = t.t2.y; z = t.t3.y };
      row2 = record { x = t.t1.z; y = t.t2.z; z = t.t3.z };
    }

-- the row of a component of the camera, from the components of the catalogue side
abbrev pub row_with : Vec3 → Matrix → Vec3
row_with c sky =
    record {
      x = entry_by c.x c.y c.z sky.row0.x sky.row0.y sky.row0.z;
      y = entry_by c.x c.y c.z sky.row1.x sky.row1.y sky.row1.z;
      z = entry_by c.x c.y c.z sky.row2.x sky.row2.y sky.row2.z;
    }

-- how large a component is on each of the axes
pub record ComponentWithin (v : Vec3) : Type 0 where
  pub x : Within 1000000000 v.x
  pub y : Within 1000000000 v.y
  pub z : Within 2000000000 v.z

pub record ComponentsWithin (m : Matrix) : Type 0 where
  pub row0 : ComponentWithin m.row0
  pub row1 : ComponentWithin m.row1
  pub row2 : ComponentWithin m.row2
