-- By the sign.
use Rattle.std.proofs.Common.{◌≡◌, true, false, ℤ, pos, ℕ, List, [], ◌∷◌, w64}
use Rattle.std.specs.Prelude.{nat_abs}
use Rattle.std.specs.Int.Signed.{lt_z}
use mir.ValLaws.{to_z-of_z}
use Rattle.text.specs.Decimal.{decimal, signed_decimal}
use Rattle.text.specs.Written.{Wrote}
use Rattle.text.specs.WrittenLaws.{wrote_then}
use Rattle.text.proofs.signed.Goals as goal

module _ {x : ℤ} (z : ℤ) (e : x ≡ z) {size : ℕ} (s : size ≡ nat_abs x) where
  below : {a b c : List ℕ} {at to end : ℕ} → lt_z x (pos 0) ≡ true → Wrote a at (45 ∷ []) b to → Wrote b to (decimal size) c end → Wrote a at (signed_decimal z) c end
  unfolding signed_decimal
  below h p q = rw (← e) (rw h (rw (← s) (wrote_then p q)))

  above : {a b : List ℕ} {at to : ℕ} → lt_z x (pos 0) ≡ false → Wrote a at (decimal size) b to → Wrote a at (signed_decimal z) b to
  unfolding signed_decimal
  above h p = rw (← e) (rw h (rw (← s) p))

pub returns-then-is_negative-clause-wrote : goal.returns-then-is_negative-clause-wrote
returns-then-is_negative-clause-wrote c =
    below c.args.z (to_z-of_z w64 c.args.z c.ranges.z) c.unsigned_abs-size.ensures.value c.if-is_negative.true c.byte-next.ensures c.number.ensures.wrote

pub returns-clause-wrote : goal.returns-clause-wrote
returns-clause-wrote c =
    above c.args.z (to_z-of_z w64 c.args.z c.ranges.z) c.unsigned_abs-size.ensures.value c.if-is_negative.false c.number-2.ensures.wrote
