-- Demand 3 of what the chain computes, on every call: it names the first assignment that fits its own directions in its own ranking's order, 13 means
-- that none does, and behind the ranking nothing else but 14 is given. Assumes nothing.
use Rattle.std.specs.Prelude.{◌≡◌, List, ◌⊎◌, ℕ, length}
use Rattle.std.proofs.Math.Path.{refl, sym, ap}
use Rattle.std.proofs.Common.{◌∙◌, arith}
use Rattle.std.proofs.Math.Logic.{inl, inr, ⊎_elim}
use Rattle.lists.specs.Contradiction.{contradiction}
use Rattle.refusal.specs.declared.Refusal.{Refusal}
use Rattle.refusal.specs.Numbers as number
use Rattle.refusal.specs.Table.{refusal_of, first_applying, answered}
use Rattle.frame_list.specs.declared.Report.{Report}
use Rattle.catalogue.specs.Stars.{stars_of}
use Rattle.search_theory.specs.Order.{at}
use Rattle.search.specs.Identified.{Identified}
use Rattle.search.proofs.Answers.{computed-identified}
use Rattle.attitude.specs.orient.Orient.{orientation_of}
use Rattle.chain.specs.declared.Settings.{Settings}
use Rattle.chain.specs.Chain.{Call, listed, refusals_of, refused_with, oriented, settled_of, sights_of, our_ranking, our_identification, located_of, tracked_of}
use Rattle.chain.specs.Ready.{Ready, Names, Tracks}
use Rattle.chain.proofs.ReadyLaws.{refused-early, ready}
use Rattle.chain.specs.ChainLaws.{sights-count, our-search}
use Rattle.chain.specs.SettledLaws.{settled-named, settled-none}
use Rattle.chain.specs.NeverLaws.{located-late}
use Rattle.chain.specs.NamesLaws.{Whole, Numbered}
use Rattle.std.specs.Prelude.{Result, Ok, Err}
use Rattle.attitude.specs.declared.Matrix.{Matrix}

number_in : Result Unit Refusal → ℕ
number_in (Ok _) = 0
number_in (Err q) = q.number

module _ (report : Report) (bytes : List ℕ) (s : Settings) where
  pub our-identified : Identified (sights_of report bytes s) bytes s.needed s.tolerance (our_ranking report bytes s) (our_identification report bytes s)
  unfolding our_identification
  our-identified = computed-identified (sights_of report bytes s) bytes s.needed s.tolerance (our_ranking report bytes s)

  located-is : located_of report bytes s ≡ settled_of report (sights_of report bytes s) bytes (our_identification report bytes s)
  unfolding located_of
  located-is = refl

  located-names : (room : List ℕ) → Ready report bytes s room → Names report bytes s (located_of report bytes s)
  located-names room h =
      let f = (our-search report bytes s room h (our_identification report bytes s) our-identified).first in
      record {
        first = settled-named report (sights_of report bytes s) bytes (our_identification report bytes s) (located_of report bytes s) located-is _ _ f;
        none = settled-none report (sights_of report bytes s) bytes (our_identification report bytes s) (located_of report bytes s) located-is _ _ f;
      }

  -- a refusal of another number names nothing, and denies nothing
  pub refused-names : (q : Refusal) → (q.number ≡ number.no_fit → ⊥) → Names report bytes s (refused_with q)
  unfolding number_in
  refused-names q other = record { first = λ e. contradiction (cc); none = λ e. absurd (other (ap number_in e)) }

module _ (c : Call) where
  pub tracked-names : Tracks c (tracked_of c)
  unfolding tracked_of
  tracked-names = by (first_applying (refusals_of c)) refl
    where
      by : (o : Result Unit Refusal) → first_applying (refusals_of c) ≡ o → Tracks c (tracked_of c)
      by (Ok _) e = rw e (located-names (listed c).report c.catalogue c.settings c.room (ready c e))
      by (Err q) e = rw e (refused-names (listed c).report c.catalogue c.settings q (refused-early c q e).no-13)

settled-words : (report : Report) (words : List ℕ) (a : Result Matrix Refusal) (u o : Result Unit Refusal)
    → (answered refused_with (answered refused_with (oriented report words a) u) o).outcome ≡ Ok tt
    → (o ≡ Ok tt) × ((answered refused_with (answered refused_with (oriented report words a) u) o).report ≡ report)
    × ((answered refused_with (answered refused_with (oriented report words a) u) o).stars ≡ words)
settled-words report words a u (Err q) e = contradiction (cc)
settled-words report words a (Err q) (Ok _) e = contradiction (cc)
settled-words report words (Err q) (Ok _) (Ok _) e = contradiction (cc)
settled-words report words (Ok m) (Ok _) (Ok _) e = (refl, refl, refl)

pub tracked-whole : (c : Call) → (tracked_of c).outcome ≡ Ok tt → Whole c (tracked_of c)
unfolding tracked_of located_of settled_of
tracked-whole c e =
    let report = (listed c).report in
    let ours = our_identification report c.catalogue c.settings in
    let w = settled-words report ours.stars (orientation_of (sights_of report c.catalogue c.settings) (stars_of c.catalogue) ours.stars)
    ours.outcome (first_applying (refusals_of c)) e in
    let h = ready c w.0 in
    let counted = sights-count report c.catalogue c.settings h.few h.size in
    let f = our-search report c.catalogue c.settings c.room h ours (our-identified report c.catalogue c.settings) in
    record {
      report = w.1;
      counted = counted;
      size = ap length w.2 ∙ f.size;
      rest = λ k l. ap (λ (xs : List ℕ). at xs k) w.2 ∙ f.rest k (omega arith);
      many = h.catalogue.size.most;
    }

module _ (c : Call) where
  -- where none of 1 to 12 and 19 applies, an accepted call, 13 or 14
  pub tracked-late : first_applying (refusals_of c) ≡ Ok tt
      → ((tracked_of c).outcome ≡ Ok tt) ⊎ (((tracked_of c).outcome ≡ refusal_of number.no_fit 0) ⊎ ((q : Refusal) × ((tracked_of c).outcome ≡ Err q)
      × (q.number ≡ number.close)))
  unfolding tracked_of
  tracked-late e = rw e (by (located_of (listed c).report c.catalogue c.settings).outcome refl)
    where
      by : (o : Result Unit Refusal) → (located_of (listed c).report c.catalogue c.settings).outcome ≡ o
          → ((located_of (listed c).report c.catalogue c.settings).outcome ≡ Ok tt)
          ⊎ (((located_of (listed c).report c.catalogue c.settings).outcome ≡ refusal_of number.no_fit 0)
          ⊎ ((q : Refusal) × ((located_of (listed c).report c.catalogue c.settings).outcome ≡ Err q) × (q.number ≡ number.close)))
      by (Ok _) k = inl k
      by (Err q) k =
          inr (⊎_elim (λ d. inl (k ∙ sym d)) (λ d. inr (q, k, d)) (located-late (listed c).report c.catalogue c.settings c.room (ready c e) q k))

  pub tracked-numbered : (q : Refusal) → (tracked_of c).outcome ≡ Err q → Numbered q
  unfolding tracked_of number_in
  tracked-numbered q h = by (first_applying (refusals_of c)) refl
    where
      by : (o : Result Unit Refusal) → first_applying (refusals_of c) ≡ o → Numbered q
      by (Err r) e =
          let n : r.number ≡ q.number = ap number_in (sym (ap (λ (o : Result Unit Refusal).
          (answered refused_with (located_of (listed c).report c.catalogue c.settings) o).outcome) e) ∙ h) in
          let a = refused-early c r e in
          record { some = omega (arith, a.some); last = omega (arith, a.last); none = λ m. absurd (a.no-13 (n ∙ m)) }
      by (Ok _) e =
          let k : (located_of (listed c).report c.catalogue c.settings).outcome ≡ Err q
          = sym (ap (λ (o : Result Unit Refusal). (answered refused_with (located_of (listed c).report c.catalogue c.settings) o).outcome) e) ∙ h in
          ⊎_elim
          (λ (d : refusal_of number.no_fit 0 ≡ Err q). let n = ap number_in d in record { some = omega arith; last = omega arith; none = λ m. sym d })
          (λ (d : q.number ≡ number.close). record { some = omega arith; last = omega arith; none = λ m. absurd (omega arith) })
          (located-late (listed c).report c.catalogue c.settings c.room (ready c e) q k)
