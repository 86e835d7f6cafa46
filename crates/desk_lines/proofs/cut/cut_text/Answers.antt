-- The kept records lie in their buffer.
use Rattle.std.proofs.Common.{◌≡◌, sym, List, ℕ, ◌*◌, ◌≤◌, ℤ, length, w32, w64, to_z, of_z, arith}
use mir.Val.{SFits}
use mir.ValLaws.{to_z-of_z}
use Rattle.std.specs.Prelude.{Ok}
use Rattle.catalogue_cut.specs.Cut.{shortened_of}
use Rattle.desk_lines.specs.cut.LinesLaws.{flight-within}
use Rattle.desk_lines.proofs.cut.cut_text.Goals as goal

within : (bytes : List ℕ) (limit closeness : ℤ) (n : ℕ) → SFits w32 limit → SFits w64 closeness
    → Ok n ≡ shortened_of bytes (to_z w32 (of_z w32 limit)) (to_z w64 (of_z w64 closeness)) → 20 * n ≤ length bytes
within bytes limit closeness n f g e =
    flight-within bytes limit closeness n (rw (to_z-of_z w32 limit f, to_z-of_z w64 closeness g) at (sym e))

pub overflow_mul-kept : goal.overflow_mul-kept
overflow_mul-kept c =
    let a = c.args in
    record { fits = omega (arith, within a.bytes.now a.limit a.closeness c.in-Ok.n c.ranges.limit c.ranges.closeness c.in-Ok.ensures.value) }

pub returns-in-Ok-clause-bytes_in_bounds : goal.returns-in-Ok-clause-bytes_in_bounds
returns-in-Ok-clause-bytes_in_bounds c =
    let a = c.args in
    (within a.bytes.now a.limit a.closeness c.in-Ok.n c.ranges.limit c.ranges.closeness c.in-Ok.ensures.value, c.whole_line-line-in-Ok.ensures.upper_bound)
