-- The part of the array of decoded stars that a caller lends on: for a valid catalogue it is the stars. Assumes nothing.
use Rattle.std.specs.Prelude.{◌≡◌, List, ℕ, ◌*◌, ◌≤◌, ℤ, length, take}
use Rattle.std.proofs.Common.{ap, arith}
use Rattle.catalogue.specs.Format.{records_in}
use Rattle.catalogue.specs.Stars.{stars_of, padded}
use Rattle.catalogue.specs.Valid.{Valid}
use Rattle.catalogue.specs.ValidStars.{padded-length, valid-front}

module _ (bytes : List ℕ) (numbers : List ℤ) (n : ℕ) (e : numbers ≡ padded (stars_of bytes)) (q : n ≡ records_in bytes) (v : Valid bytes) where
  pub lent-within : 3 * n ≤ length numbers
  lent-within = omega (arith, ap length e, padded-length bytes, v.size.most)

  pub lent-stars : take (3 * n) numbers ≡ stars_of bytes
  lent-stars = rw (e, q) (valid-front bytes v)
