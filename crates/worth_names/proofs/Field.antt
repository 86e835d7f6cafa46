-- The same by the field: the measured and the ideal directions are all within l of units, and every two ideal ones differ by at most h in each number. Then a
-- tolerance of d + 6 h e + 6 e² + 2 l is enough: the narrower the field, the smaller. Assumes nothing.
use Rattle.std.specs.Prelude.{true, List, [], ◌∷◌, ◌≡◌, ℕ, ◌+◌, ◌*◌, ◌≤◌, ℤ, pos, ◌+ℤ◌, ◌-ℤ◌, ◌*ℤ◌}
use Rattle.std.proofs.Common.{arith, lit<}
use Rattle.numbers.specs.Within.{Within, wider, within-add, within-sub, within-mul}
use Rattle.numbers.specs.Solver.{var, num, ◌⊕◌, ◌⊖◌, ◌⊗◌}
use Rattle.numbers.proofs.Solver.{ring}
use Rattle.numbers.specs.Split.{within-as, within-pos, cut}
use Rattle.vectors.specs.declared.Vec3.{Vec3}
use Rattle.vectors.specs.Vectors.{Within3, dot_of}
use Rattle.vectors.specs.Triples.{triple_at, pair_dot}
use Rattle.vectors.specs.Agree.{near-agreeing}
use Rattle.vectors.specs.Laws.{dot-within}
use Rattle.vectors.specs.Symbols.{vec, ◌▹◌, ◌⊙◌, less_of, less}
use Rattle.vectors.specs.Identities.{through}
use Rattle.vectors.specs.Unit.{NearlyUnit}
use Rattle.camera_direction.specs.ListLaws.{directions_in}
use Rattle.catalogue.specs.Format.{records_in}
use Rattle.catalogue.specs.Stars.{stars_of}
use Rattle.search_theory.specs.Order.{at}
use Rattle.search_fit.specs.Fit.{agreement}
use Rattle.worth_names.specs.Names.{FitsCall}
use Rattle.worth_names.specs.Tolerance.{Assigns, Named, Measured}
use Rattle.worth_names.proofs.Tolerance.{fits-where}
use Rattle.worth_names.specs.Field.{InField, field-agree}

-- THE TRUTH FITS, in a field
pub field_fits :
    {e d g l h : ℕ} (directions : List ℤ) (bytes : List ℕ) (needed tolerance : ℕ) (truth : List ℕ) (ideal : ℕ → Vec3) →
    Assigns (directions_in directions) (records_in bytes) needed truth → Measured directions (stars_of bytes) truth ideal e d g (records_in bytes) →
    InField directions (stars_of bytes) truth ideal l h (records_in bytes) → d + 6 * (h * e) + 6 * (e * e) + 2 * l ≤ tolerance
    → FitsCall directions bytes needed tolerance truth
field_fits directions bytes needed tolerance truth ideal a m f wide =
    fits-where directions bytes needed tolerance truth ideal a m (field-agree directions (stars_of bytes) truth ideal m f wide)
