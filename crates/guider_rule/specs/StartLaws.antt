-- Request T-14 in plain terms: which guiders a start makes. Assumes nothing.
use Rattle.std.specs.Prelude.{Bool, List, ℕ, zero, suc, ◌≤◌, ◌<◌}
use Rattle.std.proofs.Math.Bool.{true, false, cond}
use Rattle.std.proofs.Math.Path.{◌≡◌, refl}
use Rattle.std.proofs.Common.{sym, ap, ◌∙◌, arith}
use Rattle.guider_rule.specs.declared.Guide.{Guide}
use Rattle.guider_rule.specs.declared.Sighting.{Sighting}
use Rattle.guider_rule.specs.Guider.{guide_at}
use Rattle.guider_rule.specs.Rule.{widest, guider_ok}
use Rattle.guider_rule.specs.RuleLaws.{OnFrame, GuiderRule}
use Rattle.guider_rule.specs.Calls.{accepted, refused_with, nobody, sighting_at, fresh_guide, fresh_of, started_of}
use Rattle.guider_rule.specs.AfterLaws.{Whole}

-- what a start asks of the half-width and of the stars
pub record Startable (half : ℕ) (stars : List Sighting) (count : ℕ) : Type 0 where
  pub narrow : half ≤ widest
  pub few : count ≤ 4
  pub places : (i : ℕ) → i < count → OnFrame (sighting_at stars i).x (sighting_at stars i).y
  pub once : (i j : ℕ) → i < count → j < count → (sighting_at stars i).identity ≡ (sighting_at stars j).identity → i ≡ j
