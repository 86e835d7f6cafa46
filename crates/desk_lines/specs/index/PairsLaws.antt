-- The index that was made lies in its room. Assumes nothing.
use Rattle.std.specs.Prelude.{List, ◌≡◌, ℕ, ◌*◌, ◌≤◌, ℤ, length}
use Rattle.std.proofs.Common.{arith}
use borrow.Author.Tests.{ltb-false}
use Rattle.refusal.specs.Numbers as number
use Rattle.refusal.specs.Table.{first_applying}
use Rattle.refusal.proofs.Laws.{last-accepted}
use Rattle.refusal.specs.CountedLaws.{count-accepted}
use Rattle.catalogue.specs.Check as catalogue
use Rattle.catalogue.specs.Stars.{stars_of}
use Rattle.catalogue_index.specs.Index.{keys_of, index_of}
use Rattle.catalogue_index.specs.Build.{room_short, refusals_of, built_of}
use Rattle.catalogue_index.specs.BuildLaws.{index-length}
use Rattle.std.specs.Prelude.{Ok}

module _ (bytes : List ℕ) (floor : ℤ) (size n : ℕ) where
  pub index-within : built_of bytes floor size ≡ Ok n → 12 * n ≤ size
  unfolding built_of refusals_of
  index-within e =
      let a = count-accepted (length (keys_of (stars_of bytes) floor)) n (first_applying (refusals_of bytes floor size)) e in
      let short = (last-accepted (catalogue.refusals_of bytes) (room_short (stars_of bytes) floor size) number.index_room a.0).1 in
      omega (arith, a.1, ltb-false size (length (index_of (stars_of bytes) floor)) short, index-length (stars_of bytes) floor)
