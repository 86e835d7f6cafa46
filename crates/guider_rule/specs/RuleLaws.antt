-- The rule of a guider and of a frame's list in plain terms: each test says just that. Assumes nothing.
use Rattle.std.specs.Prelude.{true, ◌≡◌, ℕ, ◌≤◌, ◌<◌, eqb}
use Rattle.std.proofs.Math.Bool.{not}
use Rattle.std.proofs.Common.{sym}
use Rattle.std.proofs.Math.Path.{ap}
use Rattle.std.proofs.Math.Decide.{dec_lt}
use native.Mathlib.Omega.{arith}
use Rattle.std.proofs.Math.Dec.{leb}
use borrow.Author.Tests.{leb-true, le-leb, eqb-false, ne_eqb, not-true}
use Rattle.lists.specs.TestsLaws.{all_true, all_of, and_left, and_right, and_both}
use Rattle.frame_list.specs.declared.Report.{Report}
use Rattle.guider_rule.specs.declared.Guider.{Guider}
use Rattle.guider_rule.specs.Guider.{guide_at, star_at}
use Rattle.guider_rule.specs.Rule.{widest, farthest, on_frame, new_identity, guide_ok, guider_ok, list_ok}

-- a position on the frame
pub record OnFrame (x y : ℕ) : Type 0 where
  pub across : x ≤ farthest
  pub down : y ≤ farthest

-- a half-width of at most 2,560; at most four guides, each on the frame and with at most five misses; and no identity twice
pub record GuiderRule (g : Guider) : Type 0 where
  pub narrow : g.half ≤ widest
  pub few : g.count ≤ 4
  pub places : (i : ℕ) → i < g.count → OnFrame (guide_at g i).x (guide_at g i).y
  pub believed : (i : ℕ) → i < g.count → (guide_at g i).misses ≤ 5
  pub once : (i j : ℕ) → i < g.count → j < g.count → (guide_at g i).identity ≡ (guide_at g j).identity → i ≡ j

-- at most eight stars, each on the frame
pub record ListRule (r : Report) : Type 0 where
  pub few : r.count ≤ 8
  pub places : (k : ℕ) → k < r.count → OnFrame (star_at r k).x (star_at r k).y
