-- Errors below a bound, a tolerance that covers them, and alone: then no wrong name. And the tolerance that covers positions that are off by at most p, in
-- 256ths of a pixel, with a focal length of f. Assumes nothing.
use Rattle.std.specs.Prelude.{false, List, ◌≡◌, ℕ, ◌+◌, ◌*◌, ◌/◌, ◌≤◌, ◌<◌, ℤ, pos, ◌-ℤ◌}
use Rattle.std.proofs.Common.{subst, mod-lt, arith}
use Rattle.std.proofs.Math.Nat.{div-add-mod}
use Rattle.numbers.specs.Within.{Within}
use Rattle.vectors.specs.declared.Vec3.{Vec3}
use Rattle.vectors.specs.Vectors.{Within3}
use Rattle.vectors.specs.Symbols.{less_of}
use Rattle.camera_direction.specs.ListLaws.{directions_in}
use Rattle.camera_direction.specs.Position.{toward_of}
use Rattle.camera_direction.proofs.MovedLaws.{toward-moved}
use Rattle.catalogue.specs.Format.{records_in}
use Rattle.catalogue.specs.Stars.{stars_of}
use Rattle.search_theory.specs.Order.{at}
use Rattle.search.specs.Identified.{identification_of}
use Rattle.search_rival.specs.declared.Contest.{Contest}
use Rattle.search_rival.specs.Contested.{Contested}
use Rattle.worth_names.specs.Names.{BothName, no-wrong-name}
use Rattle.worth_names.specs.Tolerance.{Assigns, Measured}
use Rattle.worth_names.proofs.Tolerance.{truth-fits}
use Rattle.worth_names.specs.Sure.{tolerance_for}
use Rattle.std.specs.Prelude.{Ok}

-- NO WRONG NAME, from the errors alone
pub errors-covered :
    {e d g : ℕ} (directions : List ℤ) (bytes : List ℕ) (needed tolerance : ℕ) (words : List ℕ) (r : Contest) (truth : List ℕ) (ideal : ℕ → Vec3) →
    Contested directions bytes needed tolerance words r → r.outcome ≡ Ok tt → r.rival ≡ false →
    Assigns (directions_in directions) (records_in bytes) needed truth → Measured directions (stars_of bytes) truth ideal e d g (records_in bytes)
    → tolerance_for d e ≤ tolerance →
    (i : ℕ) → BothName directions bytes (identification_of directions bytes needed tolerance words).stars truth i
    → at (identification_of directions bytes needed tolerance words).stars i ≡ at truth i
errors-covered directions bytes needed tolerance words r truth ideal contested answered alone assigns measured wide i both =
    no-wrong-name directions bytes needed tolerance words r contested answered truth i both
    (truth-fits directions bytes needed tolerance truth ideal assigns measured wide) alone
