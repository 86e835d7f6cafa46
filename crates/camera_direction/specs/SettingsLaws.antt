-- What the range of a position says in plain terms, and that the test says exactly that. Assumes nothing.
use Rattle.std.specs.Prelude.{true, ◌≡◌, refl, ℕ, ◌<◌, leb, ℤ, pos, negsuc, ◌<ℤ◌}
use Rattle.std.proofs.Common.{sym, subst, arith}
use borrow.Author.Tests.{leb-true, le-leb}
use Rattle.lists.specs.Contradiction.{contradiction}
use Rattle.lists.specs.TestsLaws.{both_true}
use Rattle.numbers.specs.Abs.{pos-positive}
use Rattle.numbers.specs.Within.{Within}
use Rattle.camera_direction.specs.Settings.{between, place_ok, position_ok, Between}

pub record Position (x y : ℤ) : Type 0 where
  pub across : Between 0 261888 x
  pub down : Between 0 261888 y

module _ (low high : ℕ) where
  pub ok-between : (z : ℤ) → between (pos low) (pos high) z ≡ true → Between low high z
  unfolding between
  ok-between (pos n) e =
      let p = both_true (leb low n) (leb n high) e in
      record { at = n; is = refl; above = leb-true low n p.0; below = leb-true n high p.1 }
  ok-between (negsuc n) e = contradiction e

  pub between-ok : (z : ℤ) → Between low high z → between (pos low) (pos high) z ≡ true
  unfolding between
  between-ok z h = rw (h.is, le-leb low h.at h.above) (le-leb h.at high h.below)

  pub between-within : {z : ℤ} → Between low high z → Within high z
  between-within {z} h = subst (Within high) (sym h.is) (record { within = h.below })

  pub between-positive : {z : ℤ} → 0 < low → Between low high z → pos 0 <ℤ z
  between-positive {z} l h = subst (λ (y : ℤ). pos 0 <ℤ y) (sym h.is) (pos-positive (omega (arith, h.above)))

module _ (x y : ℤ) where
  pub ok-position : position_ok x y ≡ true → Position x y
  unfolding position_ok
  ok-position e =
      let p = both_true (place_ok x) (place_ok y) e in
      record { across = ok-between 0 261888 x p.0; down = ok-between 0 261888 y p.1 }

  pub position-ok : Position x y → position_ok x y ≡ true
  unfolding position_ok
  position-ok h = rw (between-ok 0 261888 x h.across) (between-ok 0 261888 y h.down)
