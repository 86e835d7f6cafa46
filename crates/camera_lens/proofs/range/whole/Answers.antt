-- 256 q is exact, and what is cut off is its fraction. Assumes nothing.
use Rattle.std.specs.Prelude.{Float}
use Rattle.std.specs.Float.{binary64, minus_one, two_to}
use Rattle.std.specs.Float.Ieee.{of_bits, mul, fits, lt, to_unsigned}
use Rattle.std.specs.Float.Ieee.Exact.{HasValue}
use Rattle.std.specs.Float.Ieee.Positive.{num, den, den_pos}
use Rattle.std.proofs.Common.{◌≡◌, ℕ, ◌*◌, ◌^◌, ◌<◌, true, false, T, pos, sym, ap, ◌∙◌, subst, lt_of_lt_of_le, lit≤, w64}
use mir.Val.{SFits}
use mir.ValLaws.{to_z-of_z}
use Rattle.camera_lens.specs.Lens.{in_range, whole_of}
use Rattle.camera_lens.specs.Range.{between, whole-of}
use Rattle.camera_lens.specs.Exact.{cuttable, cut}
use Rattle.camera_lens.proofs.Exact.{times-256}
use Rattle.camera_lens.proofs.Laws.{whole-range}
use Rattle.camera_lens.proofs.range.whole.Goals as goal

module _ (q : Float) (h : in_range q ≡ true) where
  below : 256 * num q < 4194305 * den q
  below = (between q h).1.below

  abbrev scaled : Float
  scaled = mul binary64 q (of_bits binary64 0x4070_0000_0000_0000)

  module _ (t : T (fits binary64 q)) where
    product : HasValue scaled false (256 * num q) (den q)
    unfolding of_bits
    product = times-256 q t h

    within : T (lt minus_one scaled) × T (lt scaled (two_to 64))
    within = cuttable (256 * num q) (den q) (den_pos q) below scaled product

    -- what is cut
    whole-is : to_unsigned 64 scaled ≡ whole_of q
    whole-is =
        cut (256 * num q) (den q) (den_pos q) below scaled product
        ∙ sym (whole-of q (num q) (den q) (between q h).0 (den_pos q))

  held : {n : ℕ} → n ≡ whole_of q → SFits w64 (pos n)
  held e = record { sfits = subst (λ (m : ℕ). m < 2 ^ 63) (sym e) (lt_of_lt_of_le (whole-range q h).1 (lit≤ tt)) }

pub truncating_f64_to_u64-requires-clause-lower_bound : goal.truncating_f64_to_u64-requires-clause-lower_bound
truncating_f64_to_u64-requires-clause-lower_bound c = (within c.args.q c.requires (subst T (sym c.well_formed.0.1) tt)).0

pub truncating_f64_to_u64-requires-clause-upper_bound : goal.truncating_f64_to_u64-requires-clause-upper_bound
truncating_f64_to_u64-requires-clause-upper_bound c = (within c.args.q c.requires (subst T (sym c.well_formed.0.1) tt)).1

pub overflow_cast-result : goal.overflow_cast-result
overflow_cast-result c =
    held c.args.q c.requires (c.truncating_f64_to_u64.ensures ∙ whole-is c.args.q c.requires (subst T (sym c.well_formed.0.1) tt))

pub returns : goal.returns
returns c =
    let e = c.truncating_f64_to_u64.ensures ∙ whole-is c.args.q c.requires (subst T (sym c.well_formed.0.1) tt) in
    to_z-of_z w64 (pos c.truncating_f64_to_u64.result) (held c.args.q c.requires e) ∙ ap pos e
