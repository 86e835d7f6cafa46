-- The dot product of two records is that of the decoded stars, whichever comes first. Assumes nothing.
use Rattle.std.specs.Prelude.{◌≡◌, List, ℕ, ◌*◌, ◌<◌, pos, ◌+ℤ◌, ◌*ℤ◌, get_or}
use Rattle.std.proofs.Common.{add-zero, arith}
use Rattle.std.proofs.Math.IntN.{*ℤ_comm}
use Rattle.vectors.specs.Triples.{triple_at, pair_dot}
use Rattle.catalogue.specs.Format.{records_in, component_of}
use Rattle.catalogue.specs.Stars.{stars_of}
use Rattle.catalogue.specs.Valid.{Valid}
use Rattle.catalogue.specs.ValidStars.{valid-at}
use Rattle.catalogue_cut.specs.Flight.{product_of}

pub product-comm : (bytes : List ℕ) (i j : ℕ) → product_of bytes i j ≡ product_of bytes j i
unfolding product_of
product-comm bytes i j =
    let c = component_of bytes in
    λ t. *ℤ_comm (c i 0) (c j 0) t +ℤ *ℤ_comm (c i 1) (c j 1) t +ℤ *ℤ_comm (c i 2) (c j 2) t

pub pair-product : (bytes : List ℕ) → Valid bytes → (i j : ℕ) → i < records_in bytes → j < records_in bytes → pair_dot (stars_of bytes) i j ≡ product_of bytes i j
unfolding pair_dot triple_at product_of
pair-product bytes v i j h l =
    λ t. x i h t *ℤ x j l t +ℤ valid-at bytes v i 1 h (omega arith) t *ℤ valid-at bytes v j 1 l (omega arith) t
    +ℤ valid-at bytes v i 2 h (omega arith) t *ℤ valid-at bytes v j 2 l (omega arith) t
  where
    x : (k : ℕ) → k < records_in bytes → get_or (stars_of bytes) (3 * k) (pos 0) ≡ component_of bytes k 0
    x k m = rw (add-zero (3 * k)) at (valid-at bytes v k 0 m (omega arith))
