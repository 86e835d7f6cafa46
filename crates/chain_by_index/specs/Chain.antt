-- The whole chain with an index: its refusals, what it answers, and what becomes of the room. Assumes nothing.
use Rattle.std.specs.Prelude.{not, List, [], ◌∷◌, ◌++◌, ℕ, ℤ, length}
use Rattle.refusal.specs.Numbers as number
use Rattle.refusal.specs.Table.{Row, row, first_applying, answered}
use Rattle.frame_list.specs.input.Input.{frame_rows}
use Rattle.catalogue.specs.Check as catalogue
use Rattle.catalogue.specs.Stars.{stars_of}
use Rattle.catalogue_index.specs.Check.{is_index}
use Rattle.chain.specs.declared.Settings.{Settings}
use Rattle.chain.specs.declared.Tracked.{Tracked}
use Rattle.chain.specs.Chain as plain
use Rattle.chain.specs.Chain.{refused_with, settings_rows, demand_rows, listed}

-- the chain's own call, and beside it an index and its floor
pub record Call : Type 0 where
  pub chain : plain.Call
  pub index : List ℕ
  pub floor : ℤ

abbrev pub call : List ℕ → List ℕ → List ℕ → ℤ → Settings → List ℕ → Call
call f k i g s r = record { chain = plain.call f k s r; index = i; floor = g }

-- 17
abbrev pub index_rows : List ℤ → List ℕ → ℤ → List Row
index_rows stars index floor = row (not (is_index stars floor index)) number.index ∷ []

-- the catalogue's 6 and 7, and then 17
unfoldable pub stars_rows : List ℕ → List ℕ → ℤ → List Row
stars_rows bytes index floor = catalogue.refusals_of bytes ++ index_rows (stars_of bytes) index floor

-- the frame's 1 to 4, 5, those of the stars, and then 9, 10 and 12
unfoldable pub refusals_of : Call → List Row
refusals_of c =
    frame_rows c.chain.samples c.chain.settings.width c.chain.settings.height c.chain.settings.threshold
    ++ (settings_rows c.chain.settings
    ++ (stars_rows c.chain.catalogue c.index c.floor
    ++ demand_rows c.chain.settings (length c.chain.room) (listed c.chain).report.count))

-- where none of them applies, the plain chain's answer, 13 and 14 among them
unfoldable pub tracked_of : Call → Tracked
tracked_of c = answered refused_with (plain.tracked_of c.chain) (first_applying (refusals_of c))

-- and its room; one of them leaves the room untouched
unfoldable pub room_after : Call → List ℕ
room_after c = answered (λ _. c.chain.room) (plain.room_after c.chain) (first_applying (refusals_of c))
