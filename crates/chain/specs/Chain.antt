-- The whole chain: list, directions, ranking, search and attitude, each step made of the answer of the one before it, until one refuses. Assumes nothing.
use Rattle.std.specs.Prelude.{not, List, [], ◌∷◌, ◌++◌, ℕ, ◌*◌, ltb, ℤ, pos, length, take, drop, replicate}
use Rattle.refusal.specs.declared.Refusal.{Refusal}
use Rattle.refusal.specs.Numbers as number
use Rattle.refusal.specs.Table.{Row, row, first_applying, answered}
use Rattle.vectors.specs.declared.Vec3.{Vec3}
use Rattle.frame_list.specs.declared.Report.{Report}
use Rattle.frame_list.specs.declared.Listing.{Listing}
use Rattle.frame_list.specs.input.Input.{frame_rows}
use Rattle.frame_list.specs.Stars.{nothing}
use Rattle.frame_list.specs.Calls.{listing_of}
use Rattle.camera_lens.specs.Lens.{lens_ok}
use Rattle.camera_direction.specs.Settings.{position_ok}
use Rattle.catalogue.specs.Format.{records_in}
use Rattle.catalogue.specs.Stars.{stars_of}
use Rattle.catalogue.specs.Check as catalogue
use Rattle.ranking.specs.Ranking.{ranking_of}
use Rattle.search.specs.declared.Identification.{Identification}
use Rattle.search.specs.Refusals.{demand_ok}
use Rattle.search.specs.Identified.{identification_of}
use Rattle.attitude.specs.declared.Matrix.{Matrix}
use Rattle.chain.specs.declared.Settings.{Settings}
use Rattle.chain.specs.declared.Tracked.{Tracked}
use Rattle.chain.specs.Sight.{directions_of}
use Rattle.attitude.specs.orient.Orient.{orientation_of}
use Rattle.std.specs.Prelude.{Result, Ok, Err}

-- ---- an answer

abbrev pub zeros : Vec3
zeros = record { x = pos 0; y = pos 0; z = pos 0 }

-- a refused call hands over no list, no assignment and no matrix
abbrev pub refused_with : Refusal → Tracked
refused_with r = record { outcome = Err r; report = nothing; stars = replicate 8 0; matrix = record { row0 = zeros; row1 = zeros; row2 = zeros } }

abbrev pub oriented : Report → List ℕ → Result Matrix Refusal → Tracked
oriented report words (Err r) = refused_with r
oriented report words (Ok m) = record { outcome = Ok tt; report = report; stars = words; matrix = m }

-- the attitude of what a search found, or its refusal
unfoldable pub settled_of : Report → List ℤ → List ℕ → Identification → Tracked
settled_of report directions bytes found =
    answered refused_with (oriented report found.stars (orientation_of directions (stars_of bytes) found.stars)) found.outcome

-- ---- the steps behind the frame's list

module _ (report : Report) (bytes : List ℕ) (s : Settings) where
  unfoldable pub sights_of : List ℤ
  sights_of = directions_of s (take report.count report.stars)

  unfoldable pub our_ranking : List ℕ
  our_ranking = ranking_of sights_of (stars_of bytes) s.tolerance

  unfoldable pub our_identification : Identification
  our_identification = identification_of sights_of bytes s.needed s.tolerance our_ranking

  unfoldable pub located_of : Tracked
  located_of = settled_of report sights_of bytes our_identification

  -- the first directions x stars words are the ranking, the rest stay
  unfoldable pub ranked_room : List ℕ → List ℕ
  ranked_room room = our_ranking ++ drop (report.count * records_in bytes) room

-- ---- the call

pub record Call : Type 0 where
  pub samples : List ℕ
  pub catalogue : List ℕ
  pub settings : Settings
  pub room : List ℕ

abbrev pub call : List ℕ → List ℕ → Settings → List ℕ → Call
call f k s r = record { samples = f; catalogue = k; settings = s; room = r }

abbrev pub listed : Call → Listing
listed c = listing_of c.samples c.settings.width c.settings.height c.settings.threshold

-- the refusals that are known before anything is written: 19 and 5, and 9, 10 and 12, beside the frame's 1 to 4 and the catalogue's 6 and 7
unfoldable pub settings_rows : Settings → List Row
settings_rows s = row (not (lens_ok s.lens)) number.lens ∷ row (not (position_ok s.cx s.cy)) number.settings ∷ []

-- the chain asks for room for any ranking, 4,096 words
unfoldable pub demand_rows : Settings → ℕ → ℕ → List Row
demand_rows s words count =
    row (not (demand_ok s.needed s.tolerance)) number.demand
    ∷ row (ltb words 4096) number.room
    ∷ row (ltb count s.needed) number.few
    ∷ []

unfoldable pub refusals_of : Call → List Row
refusals_of c =
    frame_rows c.samples c.settings.width c.settings.height c.settings.threshold
    ++ (settings_rows c.settings
    ++ (catalogue.refusals_of c.catalogue
    ++ demand_rows c.settings (length c.room) (listed c).report.count))

unfoldable pub tracked_of : Call → Tracked
tracked_of c = answered refused_with (located_of (listed c).report c.catalogue c.settings) (first_applying (refusals_of c))

-- one of 1 to 12 or 19 leaves the room untouched; from there on the ranking stands in it, also where 13 or 14 is given
unfoldable pub room_after : Call → List ℕ
room_after c = answered (λ r. c.room) (ranked_room (listed c).report c.catalogue c.settings c.room) (first_applying (refusals_of c))

-- the search's own answer for the call's directions over a ranking, which the chain leaves in the room where it gives 13 or 14
unfoldable pub names_of : List ℕ → List ℕ → Settings → List ℕ → Identification
names_of samples bytes s words =
    let report = (listing_of samples s.width s.height s.threshold).report in
    identification_of (sights_of report bytes s) bytes s.needed s.tolerance words
