-- THE NAMES OF A CHAIN. Over the frame's own directions and ranking: the truth fits, the chain answers, and the call for rivals finds none; then every
-- direction that both name has its true star. Errors of the positions that the tolerance covers make the truth fit. `contested` is the promise of the call
-- for rivals. Assumes nothing.
use Rattle.std.specs.Prelude.{true, false, List, [], ◌∷◌, ◌⊎◌, ◌≡◌, refl, ℕ, ◌+◌, ◌*◌, ◌≤◌, ◌<◌, ℤ, pos, ◌-ℤ◌}
use Rattle.std.proofs.Common.{sym, ap, ◌∙◌, subst, arith}
use Rattle.refusal.specs.Table.{first_applying, answered}
use Rattle.numbers.specs.Within.{Within}
use Rattle.numbers.specs.Solver.{var, ◌⊖◌}
use Rattle.numbers.proofs.Solver.{ring}
use Rattle.numbers.specs.Split.{within-as}
use Rattle.vectors.specs.declared.Vec3.{Vec3}
use Rattle.vectors.specs.Vectors.{Within3}
use Rattle.vectors.specs.Symbols.{less_of}
use Rattle.frame_centroid.specs.declared.Centroid.{Centroid}
use Rattle.frame_list.specs.declared.Report.{Report}
use Rattle.camera_direction.specs.ListLaws.{directions_in}
use Rattle.camera_direction.specs.Position.{toward_of}
use Rattle.camera_direction.specs.SettingsLaws.{Position}
use Rattle.camera_lens.specs.Lens.{lens_ok, focal_number}
use Rattle.camera_lens.proofs.Laws.{focal-range}
use Rattle.camera_direction.proofs.camera.Laws.{found}
use Rattle.catalogue.specs.Format.{records_in}
use Rattle.catalogue.specs.Stars.{stars_of}
use Rattle.search_theory.specs.Order.{at}
use Rattle.search.specs.Identified.{identification_of}
use Rattle.search_rival.specs.declared.Contest.{Contest}
use Rattle.search_rival.specs.Contested.{Contested, contest_of}
use Rattle.chain.specs.declared.Settings.{Settings}
use Rattle.chain.specs.Sight.{vector_of, sight_of, InFrame}
use Rattle.chain.specs.Chain.{Call, listed, refusals_of, sights_of, our_ranking, our_identification, tracked_of}
use Rattle.chain.specs.rival.Chain.{our_contest, contested_of}
use Rattle.worth_names.specs.Names.{FitsCall, BothName, no-wrong-name}
use Rattle.worth_names.proofs.Names.{wrong_name}
use Rattle.worth_names.specs.Tolerance.{Assigns, Measured}
use Rattle.worth_names.proofs.Tolerance.{truth-fits}
use Rattle.worth_names.specs.Sure.{tolerance_for, moved_by, position-moved}
use Rattle.worth_accuracy.specs.Chain.{tracked-settled, tracked-stars}
use Rattle.std.specs.Prelude.{Result, Ok}
use Rattle.refusal.specs.declared.Refusal.{Refusal}

module _ (c : Call) where
  abbrev s : Settings
  s = c.settings

  abbrev sights : List ℤ
  sights = sights_of (listed c).report c.catalogue s

  abbrev ranking : List ℕ
  ranking = our_ranking (listed c).report c.catalogue s

  -- an assignment fits the frame's own directions
  abbrev pub FitsFrame : List ℕ → Type 0
  FitsFrame = FitsCall sights c.catalogue s.needed s.tolerance

  module _
      (contested : Contested sights c.catalogue s.needed s.tolerance ranking (our_contest (listed c).report c.catalogue s))
      (accepted : (tracked_of c).outcome ≡ Ok tt)
    where
      abbrev contest : Contest
      contest = our_contest (listed c).report c.catalogue s

      asked : contested_of c ≡ contest
      unfolding contested_of
      asked = rw (tracked-settled c accepted).early

      judged : contest.outcome ≡ Ok tt
      unfolding our_identification
      judged = (contested.judged (tracked-settled c accepted).searched).accepted

      words : (tracked_of c).stars ≡ (identification_of sights c.catalogue s.needed s.tolerance ranking).stars
      unfolding our_identification
      words = tracked-stars c accepted

      module _ (truth : List ℕ) (i : ℕ) (both : BothName sights c.catalogue (tracked_of c).stars truth i) where
        ours : BothName sights c.catalogue (identification_of sights c.catalogue s.needed s.tolerance ranking).stars truth i
        ours = subst (λ (xs : List ℕ). BothName sights c.catalogue xs truth i) words both

        pub chain-no-wrong-name : FitsFrame truth → (contested_of c).rival ≡ false → at (tracked_of c).stars i ≡ at truth i
        chain-no-wrong-name fits alone =
            ap (λ (xs : List ℕ). at xs i) words
            ∙ no-wrong-name sights c.catalogue s.needed s.tolerance ranking contest contested judged truth i ours fits
            (sym (ap (λ (r : Contest). r.rival) asked) ∙ alone)

        -- a wrong name of a true star: the truth does not fit, or there is a rival
        pub chain-wrong-name : (at (tracked_of c).stars i ≡ at truth i → ⊥) → (FitsFrame truth → ⊥) ⊎ ((contested_of c).rival ≡ true)
        chain-wrong-name wrong =
            subst (λ (r : Contest). (FitsFrame truth → ⊥) ⊎ (r.rival ≡ true)) (sym asked)
            (wrong_name sights c.catalogue s.needed s.tolerance ranking contest contested judged truth i ours
            (λ e. wrong (ap (λ (xs : List ℕ). at xs i) words ∙ e)))

-- ---- the direction of a listed star against that of its true position x, y, each off by at most p

seen-from : (a b c : ℤ) → a -ℤ b ≡ a -ℤ c -ℤ (b -ℤ c)
seen-from a b c = ring (a ∷ (b ∷ (c ∷ []))) (var 0 ⊖ var 1) (var 0 ⊖ var 2 ⊖ (var 1 ⊖ var 2)) tt

pub sight-moved :
    (s : Settings) (star : Centroid) (p : ℕ) (x y : ℤ) → lens_ok s.lens ≡ true → Position s.cx s.cy → InFrame star →
    Within p (pos star.x -ℤ x) → Within p (pos star.y -ℤ y) →
    Within3 (moved_by (focal_number s.lens) p) (less_of (sight_of s star) (toward_of (x -ℤ s.cx) (y -ℤ s.cy) (pos (focal_number s.lens))))
unfolding sight_of
sight-moved s star p x y lens centre inside across down =
    let f = focal_number s.lens in
    let at-star : Position (pos star.x) (pos star.y) =
    record {
      across = record { at = star.x; is = refl; above = omega arith; below = inside.across };
      down = record { at = star.y; is = refl; above = omega arith; below = inside.down };
    } in
    subst (λ (d : Result Vec3 Refusal). Within3 (moved_by f p) (less_of (vector_of d) (toward_of (x -ℤ s.cx) (y -ℤ s.cy) (pos f))))
    (sym (found s.cx s.cy s.lens (pos star.x) (pos star.y) lens centre at-star))
    (position-moved f p (pos star.x -ℤ s.cx) (pos star.y -ℤ s.cy) (x -ℤ s.cx) (y -ℤ s.cy) (omega (arith, (focal-range s.lens lens).0))
    (within-as (seen-from (pos star.x) x s.cx) across) (within-as (seen-from (pos star.y) y s.cy) down))
