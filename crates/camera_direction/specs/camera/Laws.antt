-- What a direction through a lens is: that of the lens's whole focal length, whose laws it has. Assumes nothing.
use Rattle.std.specs.Prelude.{Bool, true, false, ◌≡◌, ℕ, ◌≤◌, ℤ, pos, ◌-ℤ◌}
use Rattle.std.proofs.Math.Bool.{not}
use Rattle.std.proofs.Math.Path.{refl, ap}
use Rattle.std.proofs.Common.{sym, ◌∙◌}
use Rattle.lists.specs.Contradiction.{contradiction}
use Rattle.refusal.specs.Table.{first_applying, answered}
use Rattle.refusal.proofs.Laws.{applying-here, applying-next}
use Rattle.refusal.specs.AnswerLaws.{answer_by}
use Rattle.refusal.proofs.AnswerLaws.{answered-by}
use Rattle.vectors.specs.declared.Vec3.{Vec3}
use Rattle.vectors.specs.Vectors.{Within3}
use Rattle.camera_direction.specs.Settings.{Between}
use Rattle.camera_direction.specs.SettingsLaws.{Position}
use Rattle.camera_direction.specs.Position.{toward_of}
use Rattle.camera_direction.specs.Direction as whole
use Rattle.camera_direction.specs.Direction.{direction_answer, out_of_range}
use Rattle.camera_lens.specs.declared.Lens.{Lens}
use Rattle.camera_lens.specs.Lens.{lens_ok, focal_number}
use Rattle.camera_lens.proofs.Laws.{focal-range}
use Rattle.camera_lens.specs.Stated.{settings_lens}
use Rattle.camera_lens.proofs.StatedLaws.{settings-ok, settings-number}
use Rattle.camera_direction.specs.camera.Camera.{refusals_of, direction_of, lens_out, answer_for}
use Rattle.refusal.specs.declared.Refusal.{Refusal}

-- the focal length of a lens that is not refused is one that a direction may be asked for
pub focal-between : (l : Lens) → lens_ok l ≡ true → Between 16384 4194304 (pos (focal_number l))
focal-between l h = let r = focal-range l h in record { at = focal_number l; is = refl; above = r.0; below = r.1 }
