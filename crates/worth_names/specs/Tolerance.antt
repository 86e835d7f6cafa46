-- HOW WIDE A TOLERANCE IS WIDE ENOUGH. Each measured direction lies within e, a component, of the vector that it would be without error; the dot products of
-- those differ from their stars' by at most d. Then T at least d + 6 x 10^9 e + 3 e² makes every two agree, and with the like for threes the truth fits.
-- Assumes nothing.
use Rattle.std.specs.Prelude.{true, false, List, ◌⊎◌, ◌≡◌, ℕ, ◌+◌, ◌*◌, ◌/◌, ◌≤◌, ◌<◌, ℤ, pos, nat_abs, ◌+ℤ◌, ◌-ℤ◌, length}
use Rattle.std.proofs.Math.Logic.{⊎_elim}
use Rattle.std.proofs.Common.{arith}
use Rattle.numbers.specs.Within.{Within, wider, within-add, within-sub}
use Rattle.numbers.specs.Split.{within-as}
use Rattle.vectors.specs.declared.Vec3.{Vec3}
use Rattle.vectors.specs.Vectors.{Within3, dot_of}
use Rattle.vectors.specs.Triples.{triple_at, pair_dot}
use Rattle.vectors.specs.Agree.{near-agreeing}
use Rattle.vectors.specs.Laws.{dot-within}
use Rattle.vectors.specs.Symbols.{less_of}
use Rattle.vectors.specs.Identities.{dot-moved, through}
use Rattle.vectors.specs.handedness.Handedness.{triple_of}
use Rattle.camera_direction.specs.ListLaws.{directions_in}
use Rattle.catalogue.specs.Format.{records_in}
use Rattle.catalogue.specs.Stars.{stars_of}
use Rattle.search_theory.specs.Order.{at}
use Rattle.search_theory.specs.Problem.{assigned}
use Rattle.search_fit.specs.Fit.{agreement, mirroring}
use Rattle.worth_names.specs.Names.{FitsCall}
use Rattle.worth_names.specs.Mirror.{small-unmirrored, near-unmirrored, turned_by, triple-moved}

-- what the truth is: a word for each direction, its star or none, no star twice, and at least the needed count
pub record Assigns (directions stars needed : ℕ) (truth : List ℕ) : Type 0 where
  pub long : directions ≤ length truth
  pub words : (i : ℕ) → i < directions → at truth i ≤ stars
  pub different : (i j : ℕ) → i < directions → j < directions → at truth i < stars → at truth i ≡ at truth j → i ≡ j
  pub enough : needed ≤ assigned stars truth directions

module _ (directions stars : List ℤ) (truth : List ℕ) (ideal : ℕ → Vec3) where
  -- direction i, with a star that is one of `count`
  pub record Named (count i : ℕ) : Type 0 where
    pub within : i < directions_in directions
    pub star : at truth i < count

  -- the product of three of the ideal vectors, and that of their stars
  abbrev ideal_triple : ℕ → ℕ → ℕ → ℤ
  ideal_triple i j k = triple_of (ideal i) (ideal j) (ideal k)

  abbrev star_triple : ℕ → ℕ → ℕ → ℤ
  star_triple i j k = triple_of (triple_at stars (at truth i)) (triple_at stars (at truth j)) (triple_at stars (at truth k))

  -- the measured directions are within e of the ideal ones, and these fit the stars: pairs within d; threes within g, and no three so flat that an error of
  -- e could turn it over, unless it is too flat to have a say
  pub record Measured (e d g count : ℕ) : Type 0 where
    pub near : (i : ℕ) → Named count i → Within3 e (less_of (triple_at directions i) (ideal i))
    pub range : (i : ℕ) → Named count i → Within3 1000000000 (ideal i)
    pub pairs : (i j : ℕ) → Named count i → Named count j → Within d (dot_of (ideal i) (ideal j) -ℤ pair_dot stars (at truth i) (at truth j))
    pub threes : (i j k : ℕ) → Named count i → Named count j → Named count k → Within g (ideal_triple i j k -ℤ star_triple i j k)
    pub upright : (i j k : ℕ) → Named count i → Named count j → Named count k
        → (nat_abs (star_triple i j k) < 1000000000000) ⊎ (turned_by (e / 1000 + 3) + g < nat_abs (star_triple i j k) + 1000000000000)

  module _ {e d g count : ℕ} (m : Measured e d g count) where
    moved : (i j : ℕ) → Named count i → Named count j → Within (6000000000 * e + 3 * (e * e)) (pair_dot directions i j -ℤ dot_of (ideal i) (ideal j))
    unfolding pair_dot
    moved i j p q =
        within-as (dot-moved (triple_at directions i) (triple_at directions j) (ideal i) (ideal j))
        (wider
        (within-add (within-add (dot-within (m.near i p) (m.range j q)) (dot-within (m.range i p) (m.near j q))) (dot-within (m.near i p) (m.near j q)))
        (omega arith))

    -- every two agree
    pub all-agree : {tolerance : ℕ} → d + 6000000000 * e + 3 * (e * e) ≤ tolerance → (i j : ℕ) → Named count i → Named count j → agreement directions stars tolerance i j (at truth i) (at truth j) ≡ true
    unfolding agreement
    all-agree {tolerance} wide i j p q =
        near-agreeing (pair_dot directions i j) (pair_dot stars (at truth i) (at truth j)) tolerance
        (wider (within-as (through (pair_dot directions i j) (dot_of (ideal i) (ideal j)) (pair_dot stars (at truth i) (at truth j)))
        (within-add (moved i j p q) (m.pairs i j p q))) (omega arith)).within

    -- no three is a mirror image
    pub none-mirrored : (i j k : ℕ) → Named count i → Named count j → Named count k → mirroring directions stars i j k (at truth i) (at truth j) (at truth k)
        ≡ false
    unfolding mirroring
    none-mirrored i j k p q r =
        let t = triple_of (triple_at directions i) (triple_at directions j) (triple_at directions k) in
        let w = within-as (through t (ideal_triple i j k) (star_triple i j k))
        (within-add
        (triple-moved (e / 1000 + 3) (omega arith) (triple_at directions i) (triple_at directions j) (triple_at directions k) (ideal i) (ideal j) (ideal k)
        (m.near i p) (m.near j q) (m.near k r) (m.range i p) (m.range j q) (m.range k r))
        (m.threes i j k p q r)) in
        ⊎_elim (small-unmirrored t (star_triple i j k)) (near-unmirrored t (star_triple i j k) w) (m.upright i j k p q r)
