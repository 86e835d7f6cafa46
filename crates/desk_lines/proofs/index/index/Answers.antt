-- The index lies in its room.
use Rattle.std.proofs.Common.{◌≡◌, sym, List, ℕ, ◌*◌, ◌≤◌, ℤ, length, w64, to_z, of_z, arith}
use mir.Val.{SFits}
use mir.ValLaws.{to_z-of_z}
use Rattle.std.specs.Prelude.{Ok}
use Rattle.catalogue_index.specs.Build.{built_of}
use Rattle.desk_lines.specs.index.PairsLaws.{index-within}
use Rattle.desk_lines.proofs.index.index.Goals as goal

within : (bytes : List ℕ) (floor : ℤ) (size n : ℕ) → SFits w64 floor → Ok n ≡ built_of bytes (to_z w64 (of_z w64 floor)) size → 12 * n ≤ size
within bytes floor size n f e = index-within bytes floor size n (rw (to_z-of_z w64 floor f) at (sym e))

pub overflow_mul-bytes : goal.overflow_mul-bytes
overflow_mul-bytes c =
    let a = c.args in
    record { fits = omega (arith, within a.catalogue.now a.floor (length a.index.now) c.in-Ok.n c.ranges.floor c.in-Ok.ensures.value) }

pub returns-in-Ok-clause-bytes_in_bounds : goal.returns-in-Ok-clause-bytes_in_bounds
returns-in-Ok-clause-bytes_in_bounds c =
    let a = c.args in
    (within a.catalogue.now a.floor (length a.index.now) c.in-Ok.n c.ranges.floor c.in-Ok.ensures.value, c.whole_line-line-in-Ok.ensures.upper_bound)
