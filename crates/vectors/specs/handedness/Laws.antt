-- How large a triple product of thousandths can be: components within 10^6 make a product within 6 x 10^18. And what `mirrored` comes to, case by case.
-- Assumes nothing.
use Rattle.std.specs.Prelude.{Bool, true, false, ◌||◌, ◌≡◌, refl, ℤ, pos, negsuc, nat_abs}
use Rattle.std.proofs.Math.Nat.{div-le_of_le-mul}
use Rattle.std.specs.Int.Signed.{quot_z}
use Rattle.numbers.specs.Abs.{abs-quot}
use Rattle.numbers.specs.Within.{Within}
use Rattle.vectors.specs.Vectors.{Within3}
use Rattle.vectors.specs.declared.Vec3.{Vec3}
use Rattle.vectors.specs.handedness.Handedness.{thousandth_of, right, left, mirrored}

pub thousandth-small : {z : ℤ} → Within 1000000000 z → Within 1000000 (quot_z z (pos 1000))
thousandth-small {z} h = record { within = rw abs-quot (div-le_of_le-mul 1000 {m = nat_abs z} {n = 1000000} h.within) }

pub thousandth-within : {v : Vec3} → Within3 1000000000 v → Within3 1000000 (thousandth_of v)
thousandth-within h = record { x = thousandth-small h.x; y = thousandth-small h.y; z = thousandth-small h.z }

-- ---- mirror images

-- no product is both
right-not-left : (p : ℤ) → right p ≡ true → left p ≡ false
right-not-left (pos n) e = refl
right-not-left (negsuc n) e = let z : ◌≡◌ {A = Bool} false true = e in cc

pub mirrored-right : (p q : ℤ) → right p ≡ true → left q ≡ mirrored p q
unfolding mirrored
mirrored-right p q e = rw (e, right-not-left p e) (go (left q))
  where
    go : (b : Bool) → b ≡ (b || false)
    go true = refl
    go false = refl

pub mirrored-left : (p q : ℤ) → right p ≡ false → left p ≡ true → right q ≡ mirrored p q
unfolding mirrored
mirrored-left p q e f = rw (e, f)

pub mirrored-neither : (p q : ℤ) → right p ≡ false → left p ≡ false → false ≡ mirrored p q
unfolding mirrored
mirrored-neither p q e f = rw (e, f)
