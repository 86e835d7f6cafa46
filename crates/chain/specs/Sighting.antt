-- What stands before the ranking: the frame's list, whether the call may go on, and the directions. Assumes nothing.
use Rattle.std.specs.Prelude.{List, ◌++◌, ℕ, ◌*◌, ◌-◌, ℤ, pos, length, take, replicate}
use Rattle.refusal.specs.Table.{first_applying, otherwise}
use Rattle.frame_list.specs.declared.Report.{Report}
use Rattle.frame_list.specs.Calls.{listing_of}
use Rattle.catalogue.specs.Check as catalogue
use Rattle.chain.specs.declared.Settings.{Settings}
use Rattle.chain.specs.declared.sight.Sighting.{Sighting}
use Rattle.chain.specs.Sight.{directions_of}
use Rattle.chain.specs.Chain.{Call, settings_rows, demand_rows}
use Rattle.std.specs.Prelude.{Result}
use Rattle.refusal.specs.declared.Refusal.{Refusal}

-- the directions of a report's stars, three numbers each, and zeros behind them
abbrev pub padded_sights : Report → Settings → List ℤ
padded_sights report s = directions_of s (take report.count report.stars) ++ replicate (24 - 3 * report.count) (pos 0)

-- the frame's own outcome comes first, and that of the stars before the demand's
abbrev pub sighting_of : List ℕ → Result Unit Refusal → Settings → ℕ → Sighting
sighting_of samples stars s words =
    let l = listing_of samples s.width s.height s.threshold in
    record {
      outcome = otherwise l.outcome (otherwise (first_applying (settings_rows s)) (otherwise stars (first_applying (demand_rows s words l.report.count))));
      report = l.report;
      directions = padded_sights l.report s;
    }

-- of a call of the chain
abbrev pub sighted : Call → Sighting
sighted c = sighting_of c.samples (first_applying (catalogue.refusals_of c.catalogue)) c.settings (length c.room)
