-- What the steps behind the frame's list are handed, and demand 3 carried up to the chain. Assumes nothing.
use Rattle.std.specs.Prelude.{◌≡◌, true, List, ℕ, ◌/◌, ◌≤◌, ℤ, length}
use Rattle.refusal.specs.Numbers as number
use Rattle.refusal.specs.Table.{refusal_of}
use Rattle.frame_list.specs.declared.Report.{Report}
use Rattle.camera_direction.specs.ListLaws.{directions_in}
use Rattle.catalogue.specs.Format.{records_in}
use Rattle.catalogue.specs.Stars.{stars_of}
use Rattle.catalogue.specs.Valid.{Valid}
use Rattle.search_theory.specs.Order.{FirstOf}
use Rattle.search_theory.specs.Problem.{assigned}
use Rattle.search.specs.declared.Identification.{Identification}
use Rattle.search_fit.specs.Fit.{ranking_of, FitsHere}
use Rattle.search.specs.Identified.{setup_for}
use Rattle.chain.specs.declared.Settings.{Settings}
use Rattle.chain.specs.declared.Tracked.{Tracked}
use Rattle.chain.specs.Sight.{AllInFrame}
use Rattle.chain.specs.Chain.{sights_of, our_ranking, ranked_room, Call, listed}
use Rattle.std.specs.Prelude.{Ok}

-- a report with enough stars, each on the frame; a valid catalogue; a demand in range; and a room for any ranking
pub record Ready (report : Report) (bytes : List ℕ) (s : Settings) (room : List ℕ) : Type 0 where
  pub few : report.count ≤ 8
  pub placed : AllInFrame report.stars
  pub size : length report.stars ≡ 8
  pub catalogue : Valid bytes
  pub least : 3 ≤ s.needed
  pub most : s.needed ≤ 8
  pub near : s.tolerance ≤ 10000000000000000
  pub enough : s.needed ≤ report.count
  pub long : 4096 ≤ length room

-- the directions of such a report, and a room in which our ranking stands, whichever way it was written
pub record RankingStands (report : Report) (directions : List ℤ) (bytes : List ℕ) (s : Settings) (room : List ℕ) : Type 0 where
  pub before : List ℕ
  pub ready : Ready report bytes s before
  pub sights : directions ≡ sights_of report bytes s
  pub ranked : room ≡ ranked_room report bytes s before

-- demand 3: an accepted call names the first assignment that fits its own directions and ranking, and 13 means that none does
pub record Names (report : Report) (bytes : List ℕ) (s : Settings) (t : Tracked) : Type 0 where
  pub first :
      t.outcome ≡ Ok tt
      → FirstOf (ranking_of (directions_in (sights_of report bytes s)) (records_in bytes) (our_ranking report bytes s))
      (FitsHere (setup_for (sights_of report bytes s) bytes s.needed s.tolerance) (sights_of report bytes s) (stars_of bytes)) true t.stars
  pub none :
      t.outcome ≡ refusal_of number.no_fit 0
      → (xs : List ℕ) → FitsHere (setup_for (sights_of report bytes s) bytes s.needed s.tolerance) (sights_of report bytes s) (stars_of bytes) xs → ⊥

-- what the attitude is asked of: where the search found something, it gave two directions a star at least
pub record Settles (directions : List ℤ) (bytes : List ℕ) (found : Identification) : Type 0 where
  pub few : length directions / 3 ≤ 8
  pub catalogue : Valid bytes
  pub two : found.outcome ≡ Ok tt → 2 ≤ assigned (records_in bytes) found.stars (length directions / 3)

-- the same of a whole call; where one of 1 to 12 or 19 is given, nothing is named
abbrev pub Tracks : Call → Tracked → Type 0
Tracks c = Names (listed c).report c.catalogue c.settings
