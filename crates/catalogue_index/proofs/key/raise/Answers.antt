-- 2^63 and the number, in 64 bits.
use Rattle.std.proofs.Common.{◌≡◌, ◌+◌, ◌%◌, ℤ, pos, negsuc, FitsSigned, ap, ◌∙◌, arith}
use Rattle.std.specs.Int.{w64, cast_unsigned}
use Rattle.std.proofs.lemmas.Int.{to_z-of_z}
use Rattle.catalogue_index.specs.Raised.{raised}
use Rattle.catalogue_index.proofs.key.raise.Goals as goal

in-64 : (z : ℤ) → FitsSigned w64 z → (9223372036854775808 + cast_unsigned w64 z) % 18446744073709551616 ≡ raised z
unfolding raised
in-64 (pos n) f = omega (arith, f.sfits)
in-64 (negsuc n) f = omega (arith, f.sfits)

pub returns : goal.returns
returns c =
    let p = c.args.p in
    let e = ap (λ (z : ℤ). (9223372036854775808 + cast_unsigned w64 z) % 18446744073709551616) (to_z-of_z w64 p c.ranges.p) in
    c.wrapping_add_signed.ensures ∙ e ∙ in-64 p c.ranges.p
