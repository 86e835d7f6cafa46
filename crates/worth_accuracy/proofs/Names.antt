-- THE NAMES OF A CHAIN. Over the frame's own directions and ranking: the truth fits, the chain answers, and the call for rivals finds none; then every
-- direction that both name has its true star. Errors of the positions that the tolerance covers make the truth fit. `contested` is the promise of the call
-- for rivals. Assumes nothing.
use Rattle.std.specs.Prelude.{true, false, List, [], ◌∷◌, ◌⊎◌, ◌≡◌, refl, ℕ, ◌+◌, ◌*◌, ◌≤◌, ◌<◌, ℤ, pos, ◌-ℤ◌}
use Rattle.std.proofs.Common.{sym, ap, ◌∙◌, subst, arith}
use Rattle.refusal.specs.Table.{first_applying, answered}
use Rattle.numbers.specs.Within.{Within}
use Rattle.numbers.specs.Solver.{var, ◌⊖◌}
use Rattle.numbers.proofs.Solver.{ring}
use Rattle.numbers.specs.Split.{within-as}
use Rattle.vectors.specs.declared.Vec3.{Vec3}
use Rattle.vectors.specs.Vectors.{Within3}
use Rattle.vectors.specs.Symbols.{less_of}
use Rattle.frame_centroid.specs.declared.Centroid.{Centroid}
use Rattle.frame_list.specs.declared.Report.{Report}
use Rattle.camera_direction.specs.ListLaws.{directions_in}
use Rattle.camera_direction.specs.Position.{toward_of}
use Rattle.camera_direction.specs.SettingsLaws.{Position}
use Rattle.camera_lens.specs.Lens.{lens_ok, focal_number}
use Rattle.camera_lens.proofs.Laws.{focal-range}
use Rattle.camera_direction.proofs.camera.Laws.{found}
use Rattle.catalogue.specs.Format.{records_in}
use Rattle.catalogue.specs.Stars.{stars_of}
use Rattle.search_theory.specs.Order.{at}
use Rattle.search.specs.Identified.{identification_of}
use Rattle.search_rival.specs.declared.Contest.{Contest}
use Rattle.search_rival.specs.Contested.{Contested, contest_of}
use Rattle.chain.specs.declared.Settings.{Settings}
use Rattle.chain.specs.Sight.{vector_of, sight_of, InFrame}
use Rattle.chain.specs.Chain.{Call, listed, refusals_of, sights_of, our_ranking, our_identification, tracked_of}
use Rattle.chain.specs.rival.Chain.{our_contest, contested_of}
use Rattle.worth_names.specs.Names.{FitsCall, BothName, no-wrong-name}
use Rattle.worth_names.proofs.Names.{wrong_name}
use Rattle.worth_names.specs.Tolerance.{Assigns, Measured}
use Rattle.worth_names.proofs.Tolerance.{truth-fits}
use Rattle.worth_names.specs.Sure.{tolerance_for, moved_by, position-moved}
use Rattle.worth_accuracy.specs.Chain.{tracked-settled, tracked-stars}
use Rattle.worth_accuracy.specs.Names.{chain-no-wrong-name}
use Rattle.std.specs.Prelude.{Ok}
use Rattle.refusal.specs.declared.Refusal.{Refusal}

module _ (c : Call) where
  abbrev s : Settings
  s = c.settings

  abbrev sights : List ℤ
  sights = sights_of (listed c).report c.catalogue s

  abbrev ranking : List ℕ
  ranking = our_ranking (listed c).report c.catalogue s

  module _
      (contested : Contested sights c.catalogue s.needed s.tolerance ranking (our_contest (listed c).report c.catalogue s))
      (accepted : (tracked_of c).outcome ≡ Ok tt)
    where
      module _ (truth : List ℕ) (i : ℕ) (both : BothName sights c.catalogue (tracked_of c).stars truth i) where
        -- errors that the tolerance covers, and alone: no wrong name
        pub chain-errors-covered :
            {e d g : ℕ} (ideal : ℕ → Vec3) → Assigns (directions_in sights) (records_in c.catalogue) s.needed truth →
            Measured sights (stars_of c.catalogue) truth ideal e d g (records_in c.catalogue) → tolerance_for d e ≤ s.tolerance →
            (contested_of c).rival ≡ false → at (tracked_of c).stars i ≡ at truth i
        chain-errors-covered ideal assigns measured wide alone =
            chain-no-wrong-name c contested accepted truth i both (truth-fits sights c.catalogue s.needed s.tolerance truth ideal assigns measured wide) alone
