-- EVERY ACCEPTED CHAIN: its directions are nearly units, and its matrix has every law of the attitude, with no condition on the call. Assumes nothing.
use Rattle.std.proofs.lemmas.Bool.{not-false}
use Rattle.std.specs.Prelude.{Bool, true, false, not, List, [], ◌∷◌, ◌≡◌, refl, ℕ, zero, suc, ◌+◌, ◌*◌, ◌≤◌, ◌<◌, ℤ, pos, get_or, take}
use Rattle.std.proofs.Common.{sym, ap, ◌∙◌, not-suc-le-zero, arith}
use Rattle.std.proofs.Math.Path.{subst}
use Rattle.std.proofs.Math.ListN.{length}
use Rattle.std.proofs.Math.Seq.{get_or-take, length-take-le}
use Rattle.lists.specs.Contradiction.{contradiction}
use Rattle.refusal.specs.declared.Refusal.{Refusal}
use Rattle.refusal.specs.Table.{first_applying, answered, otherwise}
use Rattle.refusal.specs.Laws.{Silent, otherwise-accepted}
use Rattle.refusal.proofs.Laws.{accepted-silent}
use Rattle.vectors.specs.declared.Vec3.{Vec3}
use Rattle.vectors.specs.Triples.{triple_at}
use Rattle.vectors.specs.Unit.{NearlyUnit}
use Rattle.frame_centroid.specs.declared.Centroid.{Centroid}
use Rattle.frame_list.specs.declared.Report.{Report}
use Rattle.camera_direction.specs.ListLaws.{directions_in}
use Rattle.camera_direction.specs.Settings.{Between, position_ok}
use Rattle.camera_direction.specs.SettingsLaws.{Position, ok-position}
use Rattle.camera_lens.specs.Lens.{lens_ok}
use Rattle.camera_direction.specs.camera.Camera.{direction_of}
use Rattle.camera_direction.proofs.camera.Laws.{found}
use Rattle.camera_direction.proofs.camera.LengthLaws.{found-unit}
use Rattle.catalogue.specs.Check as catalogue
use Rattle.catalogue.specs.Stars.{stars_of}
use Rattle.search.specs.declared.Identification.{Identification}
use Rattle.attitude.specs.declared.Matrix.{Matrix}
use Rattle.attitude.specs.orient.Orient.{orientation_of}
use Rattle.chain.specs.declared.Settings.{Settings}
use Rattle.chain.specs.declared.Tracked.{Tracked}
use Rattle.chain.specs.Sight.{vector_of, sight_of, numbers_of, directions_of, InFrame, nowhere}
use Rattle.chain.specs.Chain.{Call, listed, settings_rows, demand_rows, refusals_of, refused_with, oriented, settled_of, sights_of, our_identification, located_of, tracked_of}
use Rattle.chain.specs.Ready.{Ready}
use Rattle.chain.specs.AdmitLaws.{refusals-joined}
use Rattle.chain.proofs.ReadyLaws.{ready}
use Rattle.chain.specs.ChainLaws.{sights-length, sights-count}
use Rattle.worth_accuracy.specs.Worth.{Worth}
use Rattle.std.specs.Prelude.{Result, Ok, Err}

-- ---- a listed star's direction is nearly a unit

module _ (s : Settings) (lens : lens_ok s.lens ≡ true) (centre : Position s.cx s.cy) where
  sight-unit : (star : Centroid) → InFrame star → NearlyUnit 500000000000 (sight_of s star)
  unfolding sight_of
  sight-unit star f =
      let p : Position (pos star.x) (pos star.y) =
      record {
        across = record { at = star.x; is = refl; above = omega arith; below = f.across };
        down = record { at = star.y; is = refl; above = omega arith; below = f.down };
      } in
      let e = found s.cx s.cy s.lens (pos star.x) (pos star.y) lens centre p in
      subst (λ (d : Result Vec3 Refusal). NearlyUnit 500000000000 (vector_of d)) (sym e) (found-unit s.cx s.cy s.lens (pos star.x) (pos star.y) _ e)

-- direction k of a list is that of its star k
three : (k : ℕ) → 3 * suc k ≡ suc (suc (suc (3 * k)))
three k = omega arith

four : (k n : ℕ) → 3 * suc k + n ≡ suc (suc (suc (3 * k + n)))
four k n = omega arith

sight-at : (s : Settings) (stars : List Centroid) (k : ℕ) → k < length stars → triple_at (directions_of s stars) k ≡ sight_of s (get_or stars k nowhere)
unfolding triple_at directions_of
sight-at s [] k h = absurd (not-suc-le-zero h)
sight-at s (star ∷ stars) zero h = refl
sight-at s (star ∷ stars) (suc k) h =
    let all = numbers_of (sight_of s star) (directions_of s stars) in
    (λ t. record { x = get_or all (three k t) (pos 0); y = get_or all (four k 1 t) (pos 0); z = get_or all (four k 2 t) (pos 0) }) ∙ sight-at s stars k (omega arith)

-- ---- the settings of a call that is not refused early

settings-kept : (s : Settings) → first_applying (settings_rows s) ≡ Ok tt → (lens_ok s.lens ≡ true) × Position s.cx s.cy
unfolding settings_rows Silent
settings-kept s e =
    let q = accepted-silent (settings_rows s) e in
    (not-false (lens_ok s.lens) q.0, ok-position s.cx s.cy (not-false (position_ok s.cx s.cy) q.1.0))

module _ (c : Call) (e : first_applying (refusals_of c) ≡ Ok tt) where
  abbrev s : Settings
  s = c.settings

  abbrev report : Report
  report = (listed c).report

  abbrev sights : List ℤ
  sights = sights_of report c.catalogue s

  kept : (lens_ok s.lens ≡ true) × Position s.cx s.cy
  kept =
      let rest = otherwise (first_applying (catalogue.refusals_of c.catalogue)) (first_applying (demand_rows s (length c.room) report.count)) in
      let a = otherwise-accepted (listed c).outcome (otherwise (first_applying (settings_rows s)) rest) (sym (refusals-joined c) ∙ e) in
      settings-kept s (otherwise-accepted (first_applying (settings_rows s)) rest a.1).0

  pub threes : length sights ≡ 3 * directions_in sights
  threes =
      let h = ready c e in
      omega (arith, sights-length report c.catalogue s h.few h.size, sights-count report c.catalogue s h.few h.size)

  pub chain-units : (k : ℕ) → k < directions_in sights → NearlyUnit 500000000000 (triple_at sights k)
  unfolding sights_of
  chain-units k l =
      let h = ready c e in
      let n : k < report.count = omega (arith, sights-count report c.catalogue s h.few h.size) in
      let t = get_or-take report.count report.stars k nowhere n in
      let m : k < length (take report.count report.stars) = omega (arith, length-take-le report.count report.stars (omega (arith, h.few, h.size)))
      in
      subst (NearlyUnit 500000000000) (sym (sight-at s (take report.count report.stars) k m))
      (subst (λ (star : Centroid). NearlyUnit 500000000000 (sight_of s star)) (sym t)
      (sight-unit s kept.0 kept.1 (get_or report.stars k nowhere) (h.placed.at k)))

-- ---- an accepted answer

pub record Settled (report : Report) (words : List ℕ) (a : Result Matrix Refusal) (u o : Result Unit Refusal) : Type 0 where
  pub early : o ≡ Ok tt
  pub searched : u ≡ Ok tt
  pub stars : (answered refused_with (answered refused_with (oriented report words a) u) o).stars ≡ words
  pub found : a ≡ Ok (answered refused_with (answered refused_with (oriented report words a) u) o).matrix

pub settled : (report : Report) (words : List ℕ) (a : Result Matrix Refusal) (u o : Result Unit Refusal)
    → (answered refused_with (answered refused_with (oriented report words a) u) o).outcome ≡ Ok tt → Settled report words a u o
settled report words a u (Err q) e = contradiction (cc)
settled report words a (Err q) (Ok _) e = contradiction (cc)
settled report words (Err q) (Ok _) (Ok _) e = contradiction (cc)
settled report words (Ok m) (Ok _) (Ok _) e = record { early = refl; searched = refl; stars = refl; found = refl }

module _ (c : Call) (accepted : (tracked_of c).outcome ≡ Ok tt) where
  abbrev directions : List ℤ
  directions = sights_of (listed c).report c.catalogue c.settings

  abbrev ours : Identification
  ours = our_identification (listed c).report c.catalogue c.settings

  pub tracked-settled : Settled (listed c).report ours.stars (orientation_of directions (stars_of c.catalogue) ours.stars) ours.outcome
      (first_applying (refusals_of c))
  unfolding tracked_of located_of settled_of
  tracked-settled =
      settled (listed c).report ours.stars (orientation_of directions (stars_of c.catalogue) ours.stars) ours.outcome (first_applying (refusals_of c))
      accepted

  pub tracked-stars : (tracked_of c).stars ≡ ours.stars
  unfolding tracked_of located_of settled_of
  tracked-stars = tracked-settled.stars

  pub tracked-found : orientation_of directions (stars_of c.catalogue) ours.stars ≡ Ok (tracked_of c).matrix
  unfolding tracked_of located_of settled_of
  tracked-found = tracked-settled.found
