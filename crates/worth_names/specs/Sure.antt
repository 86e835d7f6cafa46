-- Errors below a bound, a tolerance that covers them, and alone: then no wrong name. And the tolerance that covers positions that are off by at most p, in
-- 256ths of a pixel, with a focal length of f. Assumes nothing.
use Rattle.std.specs.Prelude.{false, List, ◌≡◌, ℕ, ◌+◌, ◌*◌, ◌/◌, ◌≤◌, ◌<◌, ℤ, pos, ◌-ℤ◌}
use Rattle.std.proofs.Common.{subst, mod-lt, arith}
use Rattle.std.proofs.Math.Nat.{div-add-mod}
use Rattle.numbers.specs.Within.{Within}
use Rattle.vectors.specs.declared.Vec3.{Vec3}
use Rattle.vectors.specs.Vectors.{Within3}
use Rattle.vectors.specs.Symbols.{less_of}
use Rattle.camera_direction.specs.ListLaws.{directions_in}
use Rattle.camera_direction.specs.Position.{toward_of}
use Rattle.camera_direction.proofs.MovedLaws.{toward-moved}
use Rattle.catalogue.specs.Format.{records_in}
use Rattle.catalogue.specs.Stars.{stars_of}
use Rattle.search_theory.specs.Order.{at}
use Rattle.search.specs.Identified.{identification_of}
use Rattle.search_rival.specs.declared.Contest.{Contest}
use Rattle.search_rival.specs.Contested.{Contested}
use Rattle.worth_names.specs.Names.{BothName, no-wrong-name}
use Rattle.worth_names.specs.Tolerance.{Assigns, Measured}

-- the least tolerance that covers directions off by e of vectors whose pairs differ from their stars' by d
abbrev pub tolerance_for : ℕ → ℕ → ℕ
tolerance_for d e = d + 6000000000 * e + 3 * (e * e)

-- how far a direction's numbers move at the most where its position is off by p
abbrev pub moved_by : ℕ → ℕ → ℕ
moved_by f p = 3000000000 * p / f + 3

pub position-moved :
    (f p : ℕ) (x y x' y' : ℤ) → 0 < f → Within p (x -ℤ x') → Within p (y -ℤ y') → Within3 (moved_by f p) (less_of (toward_of x y (pos f)) (toward_of x' y' (pos f)))
position-moved f p x y x' y' h across down =
    let a = 3000000000 * p in
    subst (λ (n : ℕ). Within3 n (less_of (toward_of x y (pos f)) (toward_of x' y' (pos f)))) (three (a / f))
    (toward-moved p (a / f + 1) x y x' y' (pos f) across down h (omega (arith, div-add-mod a f, mod-lt a h)))
  where
    three : (n : ℕ) → n + 1 + 2 ≡ n + 3
    three n = omega arith
