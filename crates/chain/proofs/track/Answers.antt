-- The first of 1 to 12, or what the search over the ranking and the attitude come to.
use Rattle.std.proofs.Common.{◌≡◌, sym, ap, ◌∙◌, ℕ}
use Rattle.std.specs.Prelude.{Result, Ok, Err}
use Rattle.lists.specs.Contradiction.{contradiction}
use Rattle.refusal.specs.declared.Refusal.{Refusal}
use Rattle.refusal.specs.Table.{first_applying, answered}
use Rattle.frame_list.specs.declared.Report.{Report}
use Rattle.chain.specs.declared.Tracked.{Tracked}
use Rattle.chain.specs.Chain.{Call, call, listed, refusals_of, refused_with, located_of, tracked_of}
use Rattle.chain.specs.Ready.{Names}
use Rattle.chain.proofs.ReadyLaws.{refused-early}
use Rattle.chain.proofs.SightingLaws.{sighted-lent, sighted-report, sighted-outcome, ranking-stands}
use Rattle.chain.proofs.track.Goals as goal

module _ (c : Call) where
  refused-tracked : (q : Refusal) → first_applying (refusals_of c) ≡ Err q → tracked_of c ≡ refused_with q
  unfolding tracked_of
  refused-tracked q e = ap (answered refused_with (located_of (listed c).report c.catalogue c.settings)) e

  accepted-tracked : first_applying (refusals_of c) ≡ Ok tt → tracked_of c ≡ located_of (listed c).report c.catalogue c.settings
  unfolding tracked_of
  accepted-tracked e = ap (answered refused_with (located_of (listed c).report c.catalogue c.settings)) e

number_in : Result Unit Refusal → ℕ
number_in (Ok _) = 0
number_in (Err r) = r.number

-- a call that is refused before anything is written names nothing, and is not refused with 13
nothing-named : (c : Call) (q : Refusal) (t : Tracked) → first_applying (refusals_of c) ≡ Err q → t ≡ refused_with q
    → Names (listed c).report c.catalogue c.settings t
unfolding number_in
nothing-named c q t e h =
    let o : t.outcome ≡ Err q = ap (λ (x : Tracked). x.outcome) h in
    record {
      first = λ a. let b : Err q ≡ (Ok tt) = sym o ∙ a in contradiction (cc);
      none = λ n. absurd ((refused-early c q e).no-13 (ap number_in (sym o ∙ n)));
    }

pub sights-requires : goal.sights-requires
sights-requires c =
    let a = c.args in
    (sighted-lent (call a.samples.now a.catalogue.now a.settings a.room.now) _ c.ranked-sighting.ensures.value).few

pub identified-requires : goal.identified-requires
identified-requires c =
    let a = c.args in
    let w = call a.samples.now a.catalogue.now a.settings a.room.now in
    rw c.sights.ensures (ranking-stands w _ c.ranked-sighting.ensures.value c.in-Ok.is _ c.ranked-sighting.ensures.room_after)

pub returns-in-Err-clause-value : goal.returns-in-Err-clause-value
returns-in-Err-clause-value c =
    let a = c.args in
    let w = call a.samples.now a.catalogue.now a.settings a.room.now in
    c.refused.ensures ∙ sym (refused-tracked w _ (sighted-outcome w _ c.ranked-sighting.ensures.value c.in-Err.is))

pub returns-in-Err-clause-tracks : goal.returns-in-Err-clause-tracks
returns-in-Err-clause-tracks c =
    let a = c.args in
    let w = call a.samples.now a.catalogue.now a.settings a.room.now in
    nothing-named w _ c.refused.result (sighted-outcome w _ c.ranked-sighting.ensures.value c.in-Err.is) c.refused.ensures

pub returns-in-Ok-clause-value : goal.returns-in-Ok-clause-value
returns-in-Ok-clause-value c =
    let a = c.args in
    let w = call a.samples.now a.catalogue.now a.settings a.room.now in
    c.identified.ensures.value
    ∙ ap (λ (r : Report). located_of r w.catalogue w.settings) (sighted-report w _ c.ranked-sighting.ensures.value)
    ∙ sym (accepted-tracked w (sighted-outcome w _ c.ranked-sighting.ensures.value c.in-Ok.is))
