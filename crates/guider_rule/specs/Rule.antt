-- Request T-14: the rule of a guider, just made or handed in, and of a frame's list. Assumes nothing.
use Rattle.std.specs.Prelude.{Bool, not, ◌&&◌, ℕ, eqb, leb}
use Rattle.lists.specs.Tests.{all}
use Rattle.frame_list.specs.declared.Report.{Report}
use Rattle.guider_rule.specs.declared.Guider.{Guider}
use Rattle.guider_rule.specs.Guider.{guide_at, star_at, dropped}

-- the widest half-width of a box, and the largest x and y of a position: that of pixel 1,023
abbrev pub widest : ℕ
widest = 2560

abbrev pub farthest : ℕ
farthest = 261888

abbrev pub on_frame : ℕ → ℕ → Bool
on_frame x y = leb x farthest && leb y farthest

-- no guide before guide i has its identity
abbrev pub new_identity : Guider → ℕ → Bool
new_identity g i = all i (λ j. not (eqb (guide_at g j).identity (guide_at g i).identity))

-- a dropped guide must keep the rule as well
unfoldable pub guide_ok : Guider → ℕ → Bool
guide_ok g i = on_frame (guide_at g i).x (guide_at g i).y && (leb (guide_at g i).misses dropped && new_identity g i)

unfoldable pub guider_ok : Guider → Bool
guider_ok g = leb g.half widest && (leb g.count 4 && all g.count (guide_ok g))

-- a list of at most 8 stars, each on the frame
unfoldable pub list_ok : Report → Bool
list_ok r = leb r.count 8 && all r.count (λ k. on_frame (star_at r k).x (star_at r k).y)
