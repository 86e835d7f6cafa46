-- HOW WIDE A TOLERANCE IS WIDE ENOUGH. Each measured direction lies within e, a component, of the vector that it would be without error; the dot products of
-- those differ from their stars' by at most d. Then T at least d + 6 x 10^9 e + 3 e² makes every two agree, and with the like for threes the truth fits.
-- Assumes nothing.
use Rattle.std.specs.Prelude.{true, false, List, ◌⊎◌, ◌≡◌, ℕ, ◌+◌, ◌*◌, ◌/◌, ◌≤◌, ◌<◌, ℤ, pos, nat_abs, ◌+ℤ◌, ◌-ℤ◌, length}
use Rattle.std.proofs.Math.Logic.{⊎_elim}
use Rattle.std.proofs.Common.{arith}
use Rattle.numbers.specs.Within.{Within, wider, within-add, within-sub}
use Rattle.numbers.specs.Split.{within-as}
use Rattle.vectors.specs.declared.Vec3.{Vec3}
use Rattle.vectors.specs.Vectors.{Within3, dot_of}
use Rattle.vectors.specs.Triples.{triple_at, pair_dot}
use Rattle.vectors.specs.Agree.{near-agreeing}
use Rattle.vectors.specs.Laws.{dot-within}
use Rattle.vectors.specs.Symbols.{less_of}
use Rattle.vectors.specs.Identities.{dot-moved, through}
use Rattle.vectors.specs.handedness.Handedness.{triple_of}
use Rattle.camera_direction.specs.ListLaws.{directions_in}
use Rattle.catalogue.specs.Format.{records_in}
use Rattle.catalogue.specs.Stars.{stars_of}
use Rattle.search_theory.specs.Order.{at}
use Rattle.search_theory.specs.Problem.{assigned}
use Rattle.search_fit.specs.Fit.{agreement, mirroring}
use Rattle.worth_names.specs.Names.{FitsCall}
use Rattle.worth_names.specs.Mirror.{small-unmirrored, near-unmirrored, turned_by, triple-moved}
use Rattle.worth_names.specs.Tolerance.{Assigns, Named, Measured, all-agree, none-mirrored}

-- what fits: every two agree, and the threes are as measured
pub fits-where :
    {e d g : ℕ} (directions : List ℤ) (bytes : List ℕ) (needed tolerance : ℕ) (truth : List ℕ) (ideal : ℕ → Vec3) →
    Assigns (directions_in directions) (records_in bytes) needed truth → Measured directions (stars_of bytes) truth ideal e d g (records_in bytes) →
    ((i j : ℕ) → Named directions (stars_of bytes) truth ideal (records_in bytes) i → Named directions (stars_of bytes) truth ideal (records_in bytes) j
    → agreement directions (stars_of bytes) tolerance i j (at truth i) (at truth j) ≡ true) →
    FitsCall directions bytes needed tolerance truth
fits-where directions bytes needed tolerance truth ideal a m agree =
    record {
      long = a.long;
      words = a.words;
      different = a.different;
      agreed = λ i j h k n p q. agree i j (record { within = h; star = p }) (record { within = k; star = q });
      unmirrored =
          λ i j k h l n p q r.
          none-mirrored directions (stars_of bytes) truth ideal m i j k (record { within = omega arith; star = p }) (record { within = omega arith; star = q })
          (record { within = n; star = r });
      enough = a.enough;
    }

-- THE TRUTH FITS
pub truth-fits :
    {e d g : ℕ} (directions : List ℤ) (bytes : List ℕ) (needed tolerance : ℕ) (truth : List ℕ) (ideal : ℕ → Vec3) →
    Assigns (directions_in directions) (records_in bytes) needed truth → Measured directions (stars_of bytes) truth ideal e d g (records_in bytes) →
    d + 6000000000 * e + 3 * (e * e) ≤ tolerance → FitsCall directions bytes needed tolerance truth
truth-fits directions bytes needed tolerance truth ideal a m wide =
    fits-where directions bytes needed tolerance truth ideal a m (all-agree directions (stars_of bytes) truth ideal m wide)
