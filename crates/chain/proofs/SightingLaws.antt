-- The directions that a sighting lends, whatever its outcome; and what the search is handed where the chain goes on. Assumes nothing.
use Rattle.std.specs.Prelude.{◌≡◌, List, ℕ, ◌*◌, length, take}
use Rattle.std.proofs.Common.{sym, ◌∙◌, subst}
use Rattle.std.proofs.Math.Path.{ap}
use Rattle.refusal.specs.declared.Refusal.{Refusal}
use Rattle.refusal.specs.Table.{first_applying, answered}
use Rattle.frame_list.specs.declared.Report.{Report}
use Rattle.frame_list.specs.declared.Listing.{Listing}
use Rattle.frame_list.specs.Calls.{listing_of}
use Rattle.catalogue.specs.Check as catalogue
use Rattle.chain.specs.declared.Settings.{Settings}
use Rattle.chain.specs.declared.sight.Sighting.{Sighting}
use Rattle.chain.specs.Chain.{Call, listed, refusals_of, ranked_room, room_after}
use Rattle.chain.specs.Sighting.{sighted}
use Rattle.chain.specs.Ready.{Ready, RankingStands}
use Rattle.chain.specs.AdmitLaws.{refusals-joined}
use Rattle.chain.specs.ReadyLaws.{Sighted, listing-sighted}
use Rattle.chain.proofs.ReadyLaws.{ready}
use Rattle.chain.specs.SightingLaws.{Lent, sighting-lent}
use Rattle.std.specs.Prelude.{Result, Ok, Err}

-- the stars of any frame's list have directions
pub listed-sighted : (samples : List ℕ) (s : Settings) {l : Listing} → l ≡ listing_of samples s.width s.height s.threshold → Sighted l.report
listed-sighted samples s e = subst (λ (l : Listing). Sighted l.report) (sym e) (listing-sighted samples s.width s.height s.threshold)

module _ (c : Call) (r : Sighting) (e : r ≡ sighted c) where
  pub sighted-lent : Lent r.report r.directions c.catalogue c.settings
  sighted-lent = sighting-lent c.samples (first_applying (catalogue.refusals_of c.catalogue)) c.settings (length c.room) c.catalogue r e

  pub sighted-report : r.report ≡ (listed c).report
  sighted-report = ap (λ (x : Sighting). x.report) e

  -- the outcome is the first refusal of the table
  pub sighted-outcome : {o : Result Unit Refusal} → r.outcome ≡ o → first_applying (refusals_of c) ≡ o
  sighted-outcome h = refusals-joined c ∙ sym (ap (λ (x : Sighting). x.outcome) e) ∙ h

  pub refused-room : (q : Refusal) → r.outcome ≡ Err q → room_after c ≡ c.room
  unfolding room_after
  refused-room q h = ap (answered (λ (x : Refusal). c.room) (ranked_room (listed c).report c.catalogue c.settings c.room)) (sighted-outcome h)

  module _ (h : r.outcome ≡ Ok tt) where
    pub accepted-room : room_after c ≡ ranked_room r.report c.catalogue c.settings c.room
    unfolding room_after
    accepted-room =
        ap (answered (λ (x : Refusal). c.room) (ranked_room (listed c).report c.catalogue c.settings c.room)) (sighted-outcome h)
        ∙ ap (λ (x : Report). ranked_room x c.catalogue c.settings c.room) (sym sighted-report)

    pub sighted-ready : Ready r.report c.catalogue c.settings c.room
    sighted-ready = subst (λ (x : Report). Ready x c.catalogue c.settings c.room) (sym sighted-report) (ready c (sighted-outcome h))

    -- what the search is handed
    pub ranking-stands : (room : List ℕ) → room ≡ room_after c → RankingStands r.report (take (3 * r.report.count) r.directions) c.catalogue
        c.settings room
    ranking-stands room k = record { before = c.room; ready = sighted-ready; sights = sighted-lent.front; ranked = k ∙ accepted-room }
