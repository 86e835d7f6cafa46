-- The first of 1 to 12, or the rivals of what the search finds over the ranking.
use Rattle.std.proofs.Common.{◌≡◌, sym, ap, ◌∙◌}
use Rattle.std.specs.Prelude.{Ok, Err}
use Rattle.refusal.specs.declared.Refusal.{Refusal}
use Rattle.refusal.specs.Table.{first_applying, answered}
use Rattle.frame_list.specs.declared.Report.{Report}
use Rattle.search_rival.specs.Contested.{refused_with}
use Rattle.chain.specs.Chain.{Call, call, listed, refusals_of}
use Rattle.chain.specs.rival.Chain.{our_contest, contested_of}
use Rattle.chain.proofs.SightingLaws.{sighted-lent, sighted-report, sighted-outcome, ranking-stands}
use Rattle.chain.proofs.rival.contest.Goals as goal

module _ (c : Call) where
  refused-contest : (q : Refusal) → first_applying (refusals_of c) ≡ Err q → contested_of c ≡ refused_with q
  unfolding contested_of
  refused-contest q e = ap (answered refused_with (our_contest (listed c).report c.catalogue c.settings)) e

  accepted-contest : first_applying (refusals_of c) ≡ Ok tt → contested_of c ≡ our_contest (listed c).report c.catalogue c.settings
  unfolding contested_of
  accepted-contest e = ap (answered refused_with (our_contest (listed c).report c.catalogue c.settings)) e

pub sights-requires : goal.sights-requires
sights-requires c =
    let a = c.args in
    (sighted-lent (call a.samples.now a.catalogue.now a.settings a.room.now) _ c.ranked-sighting.ensures.value).few

pub contested-requires : goal.contested-requires
contested-requires c =
    let a = c.args in
    let w = call a.samples.now a.catalogue.now a.settings a.room.now in
    rw c.sights.ensures (ranking-stands w _ c.ranked-sighting.ensures.value c.in-Ok.is _ c.ranked-sighting.ensures.room_after)

pub returns-in-Err-clause-value : goal.returns-in-Err-clause-value
returns-in-Err-clause-value c =
    let a = c.args in
    let w = call a.samples.now a.catalogue.now a.settings a.room.now in
    sym (refused-contest w _ (sighted-outcome w _ c.ranked-sighting.ensures.value c.in-Err.is))

pub returns-in-Ok-clause-value : goal.returns-in-Ok-clause-value
returns-in-Ok-clause-value c =
    let a = c.args in
    let w = call a.samples.now a.catalogue.now a.settings a.room.now in
    c.contested.ensures
    ∙ ap (λ (r : Report). our_contest r w.catalogue w.settings) (sighted-report w _ c.ranked-sighting.ensures.value)
    ∙ sym (accepted-contest w (sighted-outcome w _ c.ranked-sighting.ensures.value c.in-Ok.is))
