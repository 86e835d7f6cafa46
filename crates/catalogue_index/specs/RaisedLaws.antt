-- What the move up by 2^63 comes to, and that it keeps the order. Assumes nothing.
use Rattle.std.specs.Prelude.{◌≡◌, suc, ◌+◌, ◌-◌, ◌%◌, ◌<◌, ◌≤◌, Bool, true, false, not, T, ℤ, pos, negsuc, ◌+ℤ◌, ◌≤ℤ◌, ◌<ℤ◌, FitsSigned, int_le, int_lt, nat_le, unsigned_abs, refl}
use Rattle.std.proofs.Common.{sym, ap, subst, ◌∙◌, arith, ltb-true, leb-true, leb-false, le-leb, le-ltb, of_z}
use Rattle.std.proofs.Math.Decide.{dec_le}
use Rattle.std.proofs.lemmas.Bool.{lt-leb}
use Rattle.std.specs.Int.Signed.{lt_z_yes, lt_z_no, clash_ℤ}
use Rattle.std.specs.Int.{w64}
use Rattle.lists.specs.Contradiction.{contradiction}
use Rattle.catalogue_index.specs.Raised.{raised}

pub below-size : (z : ℤ) → FitsSigned w64 z → unsigned_abs z ≤ 9223372036854775808
below-size (pos n) f = omega (arith, f.sfits)
below-size (negsuc n) f = omega (arith, f.sfits)

pub above-size : (z : ℤ) → FitsSigned w64 z → int_lt z (pos 0) ≡ false → unsigned_abs z < 9223372036854775808
above-size (pos n) f e = omega (arith, f.sfits)
above-size (negsuc n) f e = contradiction (cc)

pub raised_below : (z : ℤ) → int_lt z (pos 0) ≡ true → raised z ≡ 9223372036854775808 - unsigned_abs z
unfolding raised
raised_below (pos n) e = absurd (omega (arith, ltb-true n 0 e))
raised_below (negsuc n) e = omega arith

pub raised-above : (z : ℤ) → int_lt z (pos 0) ≡ false → raised z ≡ 9223372036854775808 + unsigned_abs z
unfolding raised
raised-above (pos n) e = refl
raised-above (negsuc n) e = contradiction (cc)

pub raised-fits : (z : ℤ) → FitsSigned w64 z → raised z < 18446744073709551616
unfolding raised
raised-fits (pos n) f = omega (arith, f.sfits)
raised-fits (negsuc n) f = omega arith

-- within 2^62 of 0 the sign is lost half the way up
pub lifted : (z : ℤ) → unsigned_abs z ≤ 4611686018427387904 → z +ℤ pos 4611686018427387904 ≡ pos (raised z - 4611686018427387904)
unfolding raised
lifted (pos n) h = ap pos (omega arith)
lifted (negsuc n) h = rw (le-ltb 4611686018427387904 (suc n) (omega arith)) (ap pos (omega arith))

pub lifted-least : (z : ℤ) → unsigned_abs z ≤ 4611686018427387904 → 4611686018427387904 ≤ raised z
unfolding raised
lifted-least (pos n) h = omega arith
lifted-least (negsuc n) h = omega arith

-- two numbers of 64 bits in one order before and after
pub raised-order : (a b : ℤ) → FitsSigned w64 a → FitsSigned w64 b → int_le a b ≡ nat_le (raised a) (raised b)
unfolding raised
raised-order (pos a) (pos b) f g = go (nat_le a b) refl
  where
    go : (t : Bool) → nat_le a b ≡ t → nat_le a b ≡ nat_le (9223372036854775808 + a) (9223372036854775808 + b)
    go true e = e ∙ sym (le-leb (9223372036854775808 + a) (9223372036854775808 + b) (omega (arith, leb-true a b e)))
    go false e = e ∙ sym (lt-leb (9223372036854775808 + a) (9223372036854775808 + b) (omega (arith, leb-false a b e)))
raised-order (pos a) (negsuc b) f g = sym (lt-leb (9223372036854775808 + a) (9223372036854775807 - b) (omega arith))
raised-order (negsuc a) (pos b) f g = sym (le-leb (9223372036854775807 - a) (9223372036854775808 + b) (omega arith))
raised-order (negsuc a) (negsuc b) f g = go (nat_le b a) refl
  where
    go : (t : Bool) → nat_le b a ≡ t → nat_le b a ≡ nat_le (9223372036854775807 - a) (9223372036854775807 - b)
    go true e = e ∙ sym (le-leb (9223372036854775807 - a) (9223372036854775807 - b) (omega (arith, leb-true b a e)))
    go false e = e ∙ sym (lt-leb (9223372036854775807 - a) (9223372036854775807 - b) (omega (arith, leb-false b a e, f.sfits)))

-- and moved by 2^63 once more it is the number's two's complement
pub raised-bits : (z : ℤ) → FitsSigned w64 z → of_z w64 z ≡ (raised z + 9223372036854775808) % 18446744073709551616
unfolding raised
raised-bits (pos n) f = omega (arith, f.sfits)
raised-bits (negsuc n) f = omega (arith, f.sfits)

-- ---- the same as facts

is_true : (b : Bool) → T b → b ≡ true
is_true true t = refl
is_true false t = absurd t

module _ {x y : ℤ} (p : FitsSigned w64 x) (q : FitsSigned w64 y) where
  pub raised-le : x ≤ℤ y → raised x ≤ raised y
  raised-le h = leb-true (raised x) (raised y) (sym (raised-order x y p q) ∙ is_true (int_le x y) h.le)

  pub le-raised : raised x ≤ raised y → x ≤ℤ y
  le-raised h = record { le = subst T (sym (raised-order x y p q ∙ le-leb (raised x) (raised y) h)) tt }

module _ {x y : ℤ} (p : FitsSigned w64 x) (q : FitsSigned w64 y) where
  pub raised_lt : x <ℤ y → raised x < raised y
  raised_lt h = go (dec_le (raised y) (raised x))
    where
      go : Dec (raised y ≤ raised x) → raised x < raised y
      go (yes k) = clash_ℤ h (le-raised q p k)
      go (no k) = omega arith

  pub lt-raised : raised x < raised y → x <ℤ y
  lt-raised h = go (int_lt x y) refl
    where
      go : (t : Bool) → int_lt x y ≡ t → x <ℤ y
      go true e = lt_z_yes (subst T (sym e) tt)
      go false e = absurd (omega (arith, raised-le q p (lt_z_no (subst (λ (b : Bool). T (not b)) (sym e) tt))))

-- the move loses nothing
pub raised-one : (x y : ℤ) → FitsSigned w64 x → FitsSigned w64 y → raised x ≡ raised y → x ≡ y
unfolding raised
raised-one (pos a) (pos b) f g e = ap pos (omega arith)
raised-one (pos a) (negsuc b) f g e = absurd (omega arith)
raised-one (negsuc a) (pos b) f g e = absurd (omega arith)
raised-one (negsuc a) (negsuc b) f g e = ap negsuc (omega (arith, f.sfits, g.sfits))
