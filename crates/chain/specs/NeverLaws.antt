-- 8 and 11 cannot arise in the chain. Assumes nothing.
use Rattle.std.specs.Prelude.{◌≡◌, refl, List, ◌⊎◌, ℕ, ℤ}
use Rattle.std.proofs.Math.Path.{sym}
use Rattle.std.proofs.Common.{ap, ◌∙◌}
use Rattle.std.proofs.Math.Logic.{inl, inr, ⊎_elim}
use Rattle.lists.specs.Contradiction.{contradiction}
use Rattle.refusal.specs.declared.Refusal.{Refusal}
use Rattle.refusal.specs.Table.{answered}
use Rattle.vectors.specs.Triples.{triple_at}
use Rattle.vectors.specs.Laws.{triple-within}
use Rattle.frame_list.specs.declared.Report.{Report}
use Rattle.catalogue.specs.Stars.{stars_of}
use Rattle.catalogue.specs.ValidStars.{valid-within}
use Rattle.search_theory.specs.Run as run
use Rattle.search.specs.Identified.{found_of, identification_of}
use Rattle.search.proofs.Promise.{none-refuses}
use Rattle.attitude.specs.Laws.{InRange}
use Rattle.attitude.proofs.Laws.{in-range-answer}
use Rattle.refusal.specs.Numbers as number
use Rattle.search.specs.Identified as sought
use Rattle.search_fit.specs.Fit.{problem}
use Rattle.chain.specs.declared.Settings.{Settings}
use Rattle.attitude.specs.orient.Orient.{orientation_of}
use Rattle.chain.specs.Chain.{refused_with, oriented, settled_of, sights_of, our_ranking, our_identification, located_of}
use Rattle.chain.specs.Ready.{Ready}
use Rattle.chain.specs.ChainLaws.{our-call, sights-listed, enough-sights}
use Rattle.std.specs.Prelude.{Result, Ok, Err}
use Rattle.attitude.specs.declared.Matrix.{Matrix}

unfoldable pub number_in : Result Unit Refusal → ℕ
number_in (Ok _) = 0
number_in (Err r) = r.number

-- a computed search is accepted, or finds that nothing fits
found-known : (a : run.Answer) → ((found_of a).outcome ≡ Ok tt) ⊎ ((found_of a).outcome ≡ Err sought.no_fit)
found-known run.nothing = inr refl
found-known (run.fit xs) = inl refl

module _ (report : Report) (bytes : List ℕ) (s : Settings) (room : List ℕ) (h : Ready report bytes s room) where
  abbrev sights : List ℤ
  sights = sights_of report bytes s

  pub search-known : ((our_identification report bytes s).outcome ≡ Ok tt) ⊎ ((our_identification report bytes s).outcome ≡ Err sought.no_fit)
  unfolding our_identification identification_of
  search-known = rw (none-refuses sights bytes s.needed s.tolerance (our_ranking report bytes s) (our-call report bytes s room h)
      (enough-sights report bytes s room h)) (found-known (run.first_fit (problem (sought.setup_for sights bytes s.needed s.tolerance)
      (our_ranking report bytes s) sights (stars_of bytes))))

  -- every vector of a direction or a star is in range
  pub in-range : (i j a b : ℕ) → InRange (triple_at sights i) (triple_at sights j) (triple_at (stars_of bytes) a) (triple_at (stars_of bytes) b)
  in-range i j a b =
      let d = (sights-listed report bytes s h.few h.size).within in
      let k = valid-within bytes h.catalogue in
      record { v1 = triple-within d i; v2 = triple-within d j; w1 = triple-within k a; w2 = triple-within k b }

  abbrev turned : Result Matrix Refusal
  turned = orientation_of sights (stars_of bytes) (our_identification report bytes s).stars

  -- behind the list only 13, which names no place, and 14 are given
  pub located-late : (q : Refusal) → (located_of report bytes s).outcome ≡ Err q → (◌≡◌ {A = Result Unit Refusal} (Err sought.no_fit) (Err q)) ⊎ (q.number ≡ number.close)
  unfolding located_of settled_of number_in orientation_of
  located-late q e =
      ⊎_elim
      (λ (k : (our_identification report bytes s).outcome ≡ Ok tt).
      let e' = sym (ap (λ (o : Result Unit Refusal). (answered refused_with (oriented report (our_identification report bytes s).stars turned) o).outcome) k) ∙ e in
      inr (⊎_elim
      (λ t. sym (ap number_in (sym (ap (λ (a : Result Matrix Refusal). (oriented report (our_identification report bytes s).stars a).outcome) t) ∙ e')))
      (λ t. let z = sym (ap (λ (a : Result Matrix Refusal). (oriented report (our_identification report bytes s).stars a).outcome) t) ∙ e' in contradiction (cc))
      (in-range-answer _ _ _ _ (in-range _ _ _ _))))
      (λ (k : (our_identification report bytes s).outcome ≡ Err sought.no_fit).
      inl (sym (ap (λ (o : Result Unit Refusal). (answered refused_with (oriented report (our_identification report bytes s).stars turned) o).outcome) k) ∙ e))
      search-known
