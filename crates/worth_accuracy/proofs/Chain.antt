-- EVERY ACCEPTED CHAIN: its directions are nearly units, and its matrix has every law of the attitude, with no condition on the call. Assumes nothing.
use Rattle.std.proofs.lemmas.Bool.{not-false}
use Rattle.std.specs.Prelude.{Bool, true, false, not, List, [], ◌∷◌, ◌≡◌, refl, ℕ, zero, suc, ◌+◌, ◌*◌, ◌≤◌, ◌<◌, ℤ, pos, get_or, take}
use Rattle.std.proofs.Common.{sym, ap, ◌∙◌, not-suc-le-zero, arith}
use Rattle.std.proofs.Math.Path.{subst}
use Rattle.std.proofs.Math.ListN.{length}
use Rattle.std.proofs.Math.Seq.{get_or-take, length-take-le}
use Rattle.lists.specs.Contradiction.{contradiction}
use Rattle.refusal.specs.declared.Refusal.{Refusal}
use Rattle.refusal.specs.Table.{first_applying, answered, otherwise}
use Rattle.refusal.specs.Laws.{Silent, otherwise-accepted}
use Rattle.refusal.proofs.Laws.{accepted-silent}
use Rattle.vectors.specs.declared.Vec3.{Vec3}
use Rattle.vectors.specs.Triples.{triple_at}
use Rattle.vectors.specs.Unit.{NearlyUnit}
use Rattle.frame_centroid.specs.declared.Centroid.{Centroid}
use Rattle.frame_list.specs.declared.Report.{Report}
use Rattle.camera_direction.specs.ListLaws.{directions_in}
use Rattle.camera_direction.specs.Settings.{Between, position_ok}
use Rattle.camera_direction.specs.SettingsLaws.{Position, ok-position}
use Rattle.camera_lens.specs.Lens.{lens_ok}
use Rattle.camera_direction.specs.camera.Camera.{direction_of}
use Rattle.camera_direction.proofs.camera.Laws.{found}
use Rattle.camera_direction.proofs.camera.LengthLaws.{found-unit}
use Rattle.catalogue.specs.Check as catalogue
use Rattle.catalogue.specs.Stars.{stars_of}
use Rattle.search.specs.declared.Identification.{Identification}
use Rattle.attitude.specs.declared.Matrix.{Matrix}
use Rattle.attitude.specs.orient.Orient.{orientation_of}
use Rattle.chain.specs.declared.Settings.{Settings}
use Rattle.chain.specs.declared.Tracked.{Tracked}
use Rattle.chain.specs.Sight.{vector_of, sight_of, numbers_of, directions_of, InFrame, nowhere}
use Rattle.chain.specs.Chain.{Call, listed, settings_rows, demand_rows, refusals_of, refused_with, oriented, settled_of, sights_of, our_identification, located_of, tracked_of}
use Rattle.chain.specs.Ready.{Ready}
use Rattle.chain.specs.AdmitLaws.{refusals-joined}
use Rattle.chain.proofs.ReadyLaws.{ready}
use Rattle.chain.specs.ChainLaws.{sights-length, sights-count}
use Rattle.worth_accuracy.specs.Worth.{Worth}
use Rattle.worth_accuracy.proofs.Worth.{orientation-worth}
use Rattle.worth_accuracy.specs.Chain.{threes, chain-units, Settled}
use Rattle.worth_accuracy.specs.Chain as defs
use Rattle.std.specs.Prelude.{Ok}

module _ (c : Call) (accepted : (tracked_of c).outcome ≡ Ok tt) where
  abbrev directions : List ℤ
  directions = sights_of (listed c).report c.catalogue c.settings

  abbrev ours : Identification
  ours = our_identification (listed c).report c.catalogue c.settings

  tracked-settled : Settled (listed c).report ours.stars (orientation_of directions (stars_of c.catalogue) ours.stars) ours.outcome (first_applying (refusals_of c))
  tracked-settled = defs.tracked-settled c accepted

  tracked-stars : (tracked_of c).stars ≡ ours.stars
  tracked-stars = defs.tracked-stars c accepted

  tracked-found : orientation_of directions (stars_of c.catalogue) ours.stars ≡ Ok (tracked_of c).matrix
  tracked-found = defs.tracked-found c accepted

  -- THE LAW
  pub tracked-worth : Worth directions c.catalogue (tracked_of c).stars (tracked_of c).matrix
  tracked-worth =
      let e = tracked-settled.early in
      subst (λ (words : List ℕ). Worth directions c.catalogue words (tracked_of c).matrix) (sym tracked-stars)
      (orientation-worth directions c.catalogue ours.stars (tracked_of c).matrix (ready c e).catalogue (threes c e) (chain-units c e) tracked-found)
