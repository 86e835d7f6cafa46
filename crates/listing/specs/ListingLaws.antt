-- Where 14 is given, the ranking stands in the room, and the search over it is the call's own. Assumes nothing.
use Rattle.std.specs.Prelude.{◌≡◌, ℕ, ◌*◌, ◌≤◌, length, take}
use Rattle.std.proofs.Math.Path.{refl, sym, ap}
use Rattle.std.proofs.Common.{◌∙◌, subst}
use mathlib.Core.List.{List}
use Rattle.refusal.specs.declared.Refusal.{Refusal}
use Rattle.refusal.specs.Numbers as number
use Rattle.refusal.specs.Table.{first_applying, answered}
use Rattle.catalogue.specs.Format.{records_in}
use Rattle.chain.specs.Chain.{Call, listed, refusals_of, refused_with, located_of, ranked_room, our_identification, tracked_of, room_after, names_of}
use Rattle.chain.specs.ChainLaws.{words-most, room-front, room-long}
use Rattle.chain.proofs.ReadyLaws.{refused-early, ready}
use Rattle.listing.specs.Listing.{Refuses}
use Rattle.std.specs.Prelude.{Result, Ok, Err}

module _ (c : Call) (r : Refusal) (ranking : List ℕ) (h : Refuses c r ranking) (e : r.number ≡ number.close) where
  admitted : first_applying (refusals_of c) ≡ Ok tt
  unfolding tracked_of
  admitted = by (first_applying (refusals_of c)) refl
    where
      by : (o : Result Unit Refusal) → first_applying (refusals_of c) ≡ o → o ≡ Ok tt
      by (Ok _) k = refl
      by (Err q) k =
          let a : Err q ≡ Err r = sym (ap (λ (o : Result Unit Refusal). (answered refused_with (located_of (listed c).report c.catalogue c.settings) o).outcome)
          k) ∙ h.outcome in
          let n : q.number ≡ r.number = cc in
          absurd ((refused-early c q k).no-14 (n ∙ e))

  pub words-few : (listed c).report.count * records_in c.catalogue ≤ 4096
  words-few = words-most _ _ _ _ (ready c admitted)

  ranked : ranking ≡ ranked_room (listed c).report c.catalogue c.settings c.room
  unfolding room_after
  ranked = h.left ∙ ap (λ (o : Result Unit Refusal). answered (λ q. c.room) (ranked_room (listed c).report c.catalogue c.settings c.room) o) admitted

  pub words-there : (listed c).report.count * records_in c.catalogue ≤ length ranking
  words-there = subst (λ (l : List ℕ). (listed c).report.count * records_in c.catalogue ≤ length l) (sym ranked) (room-long _ _ _ _ (ready c admitted))

  pub names-found : names_of c.samples c.catalogue c.settings (take ((listed c).report.count * records_in c.catalogue) ranking)
      ≡ our_identification (listed c).report c.catalogue c.settings
  unfolding names_of our_identification
  names-found =
      ap (λ (l : List ℕ). names_of c.samples c.catalogue c.settings l)
      (ap (take ((listed c).report.count * records_in c.catalogue)) ranked ∙ room-front _ _ _ _ (ready c admitted))
