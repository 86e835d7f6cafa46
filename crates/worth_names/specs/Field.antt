-- The same by the field: the measured and the ideal directions are all within l of units, and every two ideal ones differ by at most h in each number. Then a
-- tolerance of d + 6 h e + 6 e² + 2 l is enough: the narrower the field, the smaller. Assumes nothing.
use Rattle.std.specs.Prelude.{true, List, [], ◌∷◌, ◌≡◌, ℕ, ◌+◌, ◌*◌, ◌≤◌, ℤ, pos, ◌+ℤ◌, ◌-ℤ◌, ◌*ℤ◌}
use Rattle.std.proofs.Common.{arith, lit<}
use Rattle.numbers.specs.Within.{Within, wider, within-add, within-sub, within-mul}
use Rattle.numbers.specs.Solver.{var, num, ◌⊕◌, ◌⊖◌, ◌⊗◌}
use Rattle.numbers.proofs.Solver.{ring}
use Rattle.numbers.specs.Split.{within-as, within-pos, cut}
use Rattle.vectors.specs.declared.Vec3.{Vec3}
use Rattle.vectors.specs.Vectors.{Within3, dot_of}
use Rattle.vectors.specs.Triples.{triple_at, pair_dot}
use Rattle.vectors.specs.Agree.{near-agreeing}
use Rattle.vectors.specs.Laws.{dot-within}
use Rattle.vectors.specs.Symbols.{vec, ◌▹◌, ◌⊙◌, less_of, less}
use Rattle.vectors.specs.Identities.{through}
use Rattle.vectors.specs.Unit.{NearlyUnit}
use Rattle.camera_direction.specs.ListLaws.{directions_in}
use Rattle.catalogue.specs.Format.{records_in}
use Rattle.catalogue.specs.Stars.{stars_of}
use Rattle.search_theory.specs.Order.{at}
use Rattle.search_fit.specs.Fit.{agreement}
use Rattle.worth_names.specs.Names.{FitsCall}
use Rattle.worth_names.specs.Tolerance.{Assigns, Named, Measured}

-- twice the difference of two dot products, by the errors' difference along the chord, the lengths, and the errors' square
chord :
    (n : ℤ) (a b u v : Vec3) →
    pos 2 *ℤ dot_of (less_of (less_of a u) (less_of b v)) (less_of v u) +ℤ (dot_of a a -ℤ n -ℤ (dot_of u u -ℤ n)) +ℤ (dot_of b b -ℤ n -ℤ (dot_of v v -ℤ n))
    -ℤ dot_of (less_of (less_of a u) (less_of b v)) (less_of (less_of a u) (less_of b v)) ≡
    pos 2 *ℤ (dot_of a b -ℤ dot_of u v)
chord n a b u v =
    let m = var 0 in let f = vec 1 in let g = vec 4 in let h = vec 7 in let i = vec 10 in
    let e = less (less f h) (less g i) in
    ring (n ∷ (a ▹ b ▹ u ▹ v ▹ []))
    (num (pos 2) ⊗ e ⊙ less i h ⊕ (f ⊙ f ⊖ m ⊖ (h ⊙ h ⊖ m)) ⊕ (g ⊙ g ⊖ m ⊖ (i ⊙ i ⊖ m)) ⊖ e ⊙ e)
    (num (pos 2) ⊗ (f ⊙ g ⊖ h ⊙ i)) tt

module _ (directions stars : List ℤ) (truth : List ℕ) (ideal : ℕ → Vec3) where
  pub record InField (l h count : ℕ) : Type 0 where
    pub measured : (i : ℕ) → Named directions stars truth ideal count i → NearlyUnit l (triple_at directions i)
    pub ideals : (i : ℕ) → Named directions stars truth ideal count i → NearlyUnit l (ideal i)
    pub narrow : (i j : ℕ) → Named directions stars truth ideal count i → Named directions stars truth ideal count j → Within3 h (less_of (ideal j) (ideal i))

  module _ {e d g l h count : ℕ} (m : Measured directions stars truth ideal e d g count) (f : InField l h count) where
    both : (i j : ℕ) → Named directions stars truth ideal count i → Named directions stars truth ideal count j
        → Within3 (e + e) (less_of (less_of (triple_at directions i) (ideal i)) (less_of (triple_at directions j) (ideal j)))
    both i j p q =
        record {
          x = within-sub (m.near i p).x (m.near j q).x;
          y = within-sub (m.near i p).y (m.near j q).y;
          z = within-sub (m.near i p).z (m.near j q).z;
        }

    moved : (i j : ℕ) → Named directions stars truth ideal count i → Named directions stars truth ideal count j
        → Within (6 * (h * e) + 6 * (e * e) + 2 * l) (pair_dot directions i j -ℤ dot_of (ideal i) (ideal j))
    unfolding pair_dot
    moved i j p q =
        let w = both i j p q in
        cut {p = 2} (lit< tt) (chord (pos 1000000000000000000) (triple_at directions i) (triple_at directions j) (ideal i) (ideal j))
        (within-sub
        (within-add
        (within-add (within-mul (within-pos 2) (dot-within w (f.narrow i j p q))) (within-sub (f.measured i p).length (f.ideals i p).length))
        (within-sub (f.measured j q).length (f.ideals j q).length))
        (dot-within w w))
        (omega arith)

    pub field-agree : {tolerance : ℕ} → d + 6 * (h * e) + 6 * (e * e) + 2 * l ≤ tolerance → (i j : ℕ)
        → Named directions stars truth ideal count i → Named directions stars truth ideal count j
        → agreement directions stars tolerance i j (at truth i) (at truth j) ≡ true
    unfolding agreement
    field-agree {tolerance} wide i j p q =
        near-agreeing (pair_dot directions i j) (pair_dot stars (at truth i) (at truth j)) tolerance
        (wider (within-as (through (pair_dot directions i j) (dot_of (ideal i) (ideal j)) (pair_dot stars (at truth i) (at truth j)))
        (within-add (moved i j p q) (m.pairs i j p q))) (omega arith)).within
