-- The rule of a record, one test at a time, as the code meets them. Assumes nothing.
use Rattle.std.specs.Prelude.{Bool, true, false, ◌≡◌, refl, List, ℕ, zero, suc, ◌-◌, ltb}
use Rattle.std.proofs.Common.{arith}
use Rattle.catalogue.specs.Format.{identity_of, component_of, magnitude_of}
use Rattle.catalogue.specs.Rule.{direction_ok, magnitude_ok, star_ok, identity_rises, record_ok}

module _ (bytes : List ℕ) (i : ℕ) where
  abbrev pub direction : Bool
  direction = direction_ok (component_of bytes i 0) (component_of bytes i 1) (component_of bytes i 2)

  pub direction-broken : direction ≡ false → star_ok bytes i ≡ false
  direction-broken e = rw e

  pub direction-kept : direction ≡ true → star_ok bytes i ≡ magnitude_ok (magnitude_of bytes i)
  direction-kept e = rw e

  pub star-broken : star_ok bytes i ≡ false → record_ok bytes i ≡ false
  unfolding record_ok
  star-broken e = rw e

  pub star-kept : star_ok bytes i ≡ true → record_ok bytes i ≡ identity_rises bytes i
  unfolding record_ok
  star-kept e = rw e

pub rises-first : (bytes : List ℕ) (i : ℕ) → i ≡ 0 → identity_rises bytes i ≡ true
unfolding identity_rises
rises-first bytes i e = rw e

pub rises_next : (bytes : List ℕ) (i : ℕ) → (i ≡ 0 → ⊥) → identity_rises bytes i ≡ ltb (identity_of bytes (i - 1)) (identity_of bytes i)
unfolding identity_rises
rises_next bytes zero n = absurd (n refl)
rises_next bytes (suc i) n = let e : suc i - 1 ≡ i = omega arith in rw e
