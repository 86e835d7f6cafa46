-- The flight catalogue in plain terms. A record is among the kept exactly where it stays; the kept ones have their bytes and their order; what stands at
-- the front is a valid catalogue again. Assumes nothing.
use Rattle.std.specs.Prelude.{◌≡◌, List, ℕ, ◌+◌, ◌*◌, ◌≤◌, ◌<◌, ℤ, pos, ◌-ℤ◌, length, get_or, ◌≤ℤ◌}
use Rattle.std.proofs.Math.Path.{sym, ap}
use Rattle.std.proofs.Common.{subst, ◌∙◌}
use native.Mathlib.Omega.{arith}
use Rattle.lists.proofs.NumberLaws.{number-most}
use Rattle.lists.proofs.Below.{Place}
use Rattle.numbers.specs.Within.{Within}
use Rattle.words.specs.Number.{number_at}
use Rattle.words.specs.NumberLaws.{number_same}
use Rattle.catalogue.specs.Format.{record_size, records_in, signed_of, identity_of, component_of, magnitude_of}
use Rattle.catalogue.specs.Rule.{largest, square_sum, slack, squares, brightest, faintest}
use Rattle.catalogue.specs.Valid.{StarRule, Valid}
use Rattle.catalogue_cut.specs.Flight.{is_kept, product_of, flight_of}
use Rattle.catalogue_cut.specs.Kept.{Stays}
use Rattle.catalogue_cut.proofs.Kept.{kept-stays, stays-kept}
use Rattle.catalogue_cut.specs.Pairs.{product-comm}
use Rattle.catalogue_cut.specs.Front.{kept}
use Rattle.catalogue_cut.proofs.Front.{kept-passing, kept-number, kept-inside, flight-length, flight-byte}

module _ (bytes : List ℕ) (limit closeness : ℤ) where
  -- ---- who is kept

  pub kept-only : (i : ℕ) → Place i (kept bytes limit closeness) → Stays bytes limit closeness i
  kept-only i p =
      let e = (kept-passing bytes limit closeness).each p.place p.inside in
      subst (Stays bytes limit closeness) p.is (kept-stays bytes limit closeness (get_or (kept bytes limit closeness) p.place 0) e.0 e.1)

  pub kept-all : (i : ℕ) → Stays bytes limit closeness i → Place i (kept bytes limit closeness)
  kept-all i s = (kept-passing bytes limit closeness).all i s.inside (stays-kept bytes limit closeness i s)

  -- they stand in their order
  pub kept-rises : (p q : ℕ) → p < q → q < length (kept bytes limit closeness) → get_or (kept bytes limit closeness) p 0 < get_or (kept bytes limit closeness) q 0
  kept-rises = (kept-passing bytes limit closeness).rises

  -- of a close pair both go
  pub both_go : (i j : ℕ) → i < records_in bytes → j < records_in bytes → (i ≡ j → ⊥) → magnitude_of bytes i ≤ℤ limit → magnitude_of bytes j ≤ℤ limit
      → closeness ≤ℤ product_of bytes i j → (Place i (kept bytes limit closeness) → ⊥) × (Place j (kept bytes limit closeness) → ⊥)
  both_go i j h l d b c p = (
    (λ q. (kept-only i q).alone j (record { inside = l; other = λ e. d (sym e); bright = c; close = p })),
    (λ q. (kept-only j q).alone i (record { inside = h; other = d; bright = b; close = subst (λ (z : ℤ). closeness ≤ℤ z) (product-comm bytes i j) p })),
  )

  -- ---- the flight catalogue has the kept records' numbers

  abbrev pub flight : List ℕ
  flight = flight_of bytes limit closeness

  -- the record that its p'th record was
  abbrev pub was : ℕ → ℕ
  was p = get_or (kept bytes limit closeness) p 0

  pub flight-records : records_in flight ≡ length (kept bytes limit closeness)
  flight-records = omega (arith, flight-length bytes limit closeness)

  module _ (p : ℕ) (h : p < length (kept bytes limit closeness)) where
    word : (m : ℕ) → m + 4 ≤ record_size → number_at flight (record_size * p + m) 4 ≡ number_at bytes (record_size * was p + m) 4
    word m l = number_same flight bytes (record_size * p + m) (record_size * was p + m) 4 (λ k j. at k j)
      where
        at : (k : ℕ) → k < 4 → get_or flight (record_size * p + m + k) 0 ≡ get_or bytes (record_size * was p + m + k) 0
        at k j =
            let a : record_size * p + m + k ≡ record_size * p + (m + k) = omega arith in
            let b : record_size * was p + m + k ≡ record_size * was p + (m + k) = omega arith in
            ap (λ (n : ℕ). get_or flight n 0) a ∙ flight-byte bytes limit closeness p (m + k) h (omega arith) ∙ sym (ap (λ (n : ℕ). get_or bytes n 0) b)

    pub same-identity : identity_of flight p ≡ identity_of bytes (was p)
    unfolding identity_of
    same-identity =
        let a : record_size * p ≡ record_size * p + 0 = omega arith in
        let b : record_size * was p ≡ record_size * was p + 0 = omega arith in
        ap (λ (n : ℕ). number_at flight n 4) a ∙ word 0 (omega arith) ∙ sym (ap (λ (n : ℕ). number_at bytes n 4) b)

    pub same-component : (axis : ℕ) → axis < 3 → component_of flight p axis ≡ component_of bytes (was p) axis
    unfolding component_of
    same-component axis l = ap signed_of (word (4 + 4 * axis) (omega arith))

    pub same-magnitude : magnitude_of flight p ≡ magnitude_of bytes (was p)
    unfolding magnitude_of
    same-magnitude = ap signed_of (word 16 (omega arith))

    same-star : StarRule bytes (was p) → StarRule flight p
    same-star s =
        let x = sym (same-component 0 (omega arith)) in
        let y = sym (same-component 1 (omega arith)) in
        let z = sym (same-component 2 (omega arith)) in
        let m = sym same-magnitude in
        record {
          x = subst (Within largest) x s.x;
          y = subst (Within largest) y s.y;
          z = subst (Within largest) z s.z;
          norm = subst (Within slack) (λ i. squares (x i) (y i) (z i) -ℤ pos square_sum) s.norm;
          bright = subst (λ (n : ℤ). brightest ≤ℤ n) m s.bright;
          faint = subst (λ (n : ℤ). n ≤ℤ faintest) m s.faint;
        }

  -- ---- and is a valid one, where anything is kept

  pub flight-valid : Valid bytes → 1 ≤ length (kept bytes limit closeness) → Valid flight
  flight-valid v some =
      let n = flight-records in
      record {
        size = record {
          whole = omega (arith, flight-length bytes limit closeness);
          some = omega arith;
          most = omega (arith, kept-number bytes limit closeness, number-most (records_in bytes) (is_kept bytes limit closeness), v.size.most);
        };
        stars = λ p h. let l : p < length (kept bytes limit closeness) =
            omega arith in same-star p l (v.stars (was p) ((kept-inside bytes limit closeness).at p l));
        rising = λ p q h l. rising p q h (omega arith);
      }
    where
      rising : (p q : ℕ) → p < q → q < length (kept bytes limit closeness) → identity_of flight p < identity_of flight q
      rising p q h l =
          let a = same-identity p (omega arith) in
          let b = same-identity q l in
          omega (arith, a, b, v.rising (was p) (was q) (kept-rises p q h l) ((kept-inside bytes limit closeness).at q l))
