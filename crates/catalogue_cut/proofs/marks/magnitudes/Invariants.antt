-- The first i records have their marks. Assumes nothing.
use Rattle.std.proofs.Common.{◌≡◌, ℕ, ◌<◌, length, get_or}
use Rattle.catalogue_cut.specs.Flight.{is_bright}
use Rattle.catalogue_cut.specs.marks.Number.{numbers_of}
use Rattle.catalogue_cut.specs.marks.Marks.{faint_mark}
use Rattle.catalogue_cut.proofs.marks.magnitudes.Given as goal

abbrev pub invariant-loop-i : goal.invariant-loop-i
invariant-loop-i l =
    (length l.marks ≡ 512) × ((k : ℕ) → k < l.i → get_or (numbers_of l.marks) k 0 ≡ faint_mark (is_bright l.bytes l.limit k))
