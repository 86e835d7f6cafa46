-- The stars of a valid catalogue: three numbers a record, each within ±10^9, and the front of the array that holds them. Assumes nothing.
use Rattle.std.specs.Prelude.{◌≡◌, List, ℕ, zero, suc, ◌+◌, ◌*◌, ◌-◌, ◌/◌, ◌%◌, ◌≤◌, ◌<◌, pos, length, get_or, take, replicate}
use Rattle.std.proofs.Common.{sym, subst, zero-le, arith, length-append}
use Rattle.std.proofs.Math.Decide.{dec_lt}
use Rattle.std.proofs.lemmas.List.{length-replicate}
use Rattle.std.proofs.Math.ListN.{get_or-eq_default}
use Rattle.std.proofs.Math.Seq.{take_at}
use Rattle.numbers.specs.Within.{Within}
use Rattle.vectors.specs.Triples.{AllWithin}
use Rattle.catalogue.specs.Format.{records_in, component_of}
use Rattle.catalogue.specs.Rule.{largest}
use Rattle.catalogue.specs.Stars.{stars_in, stars_of, padded}
use Rattle.catalogue.specs.StarsLaws.{stars-length, star-at, number_at}
use Rattle.catalogue.specs.Valid.{StarRule, Valid}

axis-within : {bytes : List ℕ} {i : ℕ} → StarRule bytes i → (k : ℕ) → k < 3 → Within largest (component_of bytes i k)
axis-within s zero h = s.x
axis-within s (suc zero) h = s.y
axis-within s (suc (suc zero)) h = s.z
axis-within s (suc (suc (suc k))) h = absurd (omega arith)

-- the array has 1,536 numbers, whatever the bytes are
pub padded-length : (bytes : List ℕ) → length (padded (stars_of bytes)) ≡ 1536
unfolding padded
padded-length bytes =
    omega (
      arith,
      length-append (stars_of bytes) (replicate (1536 - length (stars_of bytes)) (pos 0)),
      length-replicate (1536 - length (stars_of bytes)) (pos 0),
      stars-length bytes,
    )

module _ (bytes : List ℕ) (v : Valid bytes) where
  pub all-decoded : stars_in bytes ≡ records_in bytes
  all-decoded = omega (arith, v.size.most)

  pub valid-length : length (stars_of bytes) ≡ 3 * records_in bytes
  valid-length = omega (arith, stars-length bytes, all-decoded)

  -- number k of star i
  pub valid-at : (i k : ℕ) → i < records_in bytes → k < 3 → get_or (stars_of bytes) (3 * i + k) (pos 0) ≡ component_of bytes i k
  valid-at i k h l = star-at bytes i k (omega (arith, all-decoded)) l

  pub valid-within : AllWithin largest (stars_of bytes)
  valid-within = record { at = λ m. go m (dec_lt m (3 * records_in bytes)) }
    where
      go : (m : ℕ) → Dec (m < 3 * records_in bytes) → Within largest (get_or (stars_of bytes) m (pos 0))
      go m (yes h) =
          subst (Within largest) (sym (number_at bytes m (omega (arith, all-decoded))))
          (axis-within (v.stars (m / 3) (omega arith)) (m % 3) (omega arith))
      go m (no h) =
          let e : length (stars_of bytes) ≤ m = omega (arith, valid-length) in
          subst (Within largest) (sym (get_or-eq_default (stars_of bytes) (pos 0) e)) (record { within = zero-le })

  -- the part of the array that is filled
  pub valid-front : take (3 * records_in bytes) (padded (stars_of bytes)) ≡ stars_of bytes
  unfolding padded
  valid-front = take_at (stars_of bytes) _ (3 * records_in bytes) valid-length
