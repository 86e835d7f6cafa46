-- Request T-14 in plain terms: which guide follows which star, and what becomes of each guide at a frame. Assumes nothing.
use Rattle.std.specs.Prelude.{Bool, ◌&&◌, ◌≡◌, ℕ, ◌+◌, ◌≤◌, ◌<◌, leb}
use Rattle.std.proofs.Math.Bool.{true, false, not}
use Rattle.std.proofs.Math.Path.{refl}
use Rattle.std.proofs.Common.{sym, ap, ◌∙◌, arith}
use Rattle.std.proofs.Math.Decide.{dec_lt}
use Rattle.std.proofs.Math.Dec.{eqb}
use borrow.Author.Tests.{leb-true, le-leb, ltb-true, lt-ltb, le-ltb, eqb-true, eq-eqb, eqb-false, not-true}
use Rattle.lists.specs.Contradiction.{contradiction}
use Rattle.lists.specs.First.{first}
use Rattle.lists.proofs.First.{first-is, first_of}
use Rattle.lists.specs.Number.{number}
use Rattle.lists.specs.TestsLaws.{and_left, and_right, and_both, some-none, none-some, not-of}
use Rattle.frame_centroid.specs.declared.Centroid.{Centroid}
use Rattle.frame_list.specs.declared.Report.{Report}
use Rattle.guider_rule.specs.declared.Guide.{Guide}
use Rattle.guider_rule.specs.declared.Guider.{Guider}
use Rattle.lists.proofs.One.{first_counted, only_one, one-counted}
use Rattle.guider_rule.specs.Guider.{guide_at, star_at, apart, in_box, live, claims, shared, inside, star_in, follows, moved, missed, guide_after}

-- the star lies in the box around the guide's position, its border included
pub record InBox (half : ℕ) (guide : Guide) (star : Centroid) : Type 0 where
  pub left : guide.x ≤ star.x + half
  pub right : star.x ≤ guide.x + half
  pub above : guide.y ≤ star.y + half
  pub below : star.y ≤ guide.y + half

-- guide i is live, star k is the only listed star in its box, and guide i the only live guide that has star k in its box
pub record Follows (g : Guider) (r : Report) (i k : ℕ) : Type 0 where
  pub living : (guide_at g i).misses < 5
  pub listed : k < r.count
  pub within : InBox g.half (guide_at g i) (star_at r k)
  pub alone : (m : ℕ) → m < r.count → InBox g.half (guide_at g i) (star_at r m) → m ≡ k
  pub free : (j : ℕ) → j < g.count → (guide_at g j).misses < 5 → InBox g.half (guide_at g j) (star_at r k) → j ≡ i

module _ (half : ℕ) (guide : Guide) (star : Centroid) where
  pub in-box : in_box half guide star ≡ true → InBox half guide star
  in-box e =
      let x = leb-true (apart guide.x star.x) half (and_left _ _ e) in
      let y = leb-true (apart guide.y star.y) half (and_right (leb (apart guide.x star.x) half) _ e) in
      record { left = omega arith; right = omega arith; above = omega arith; below = omega arith }

  pub box_in : InBox half guide star → in_box half guide star ≡ true
  box_in b =
      let x : apart guide.x star.x ≤ half = omega (arith, b.left, b.right) in
      let y : apart guide.y star.y ≤ half = omega (arith, b.above, b.below) in
      and_both _ _ (le-leb _ _ x) (le-leb _ _ y)

-- ---- exactly under the rule

-- one star never serves two guides
pub one-guide : (g : Guider) (r : Report) (i j k : ℕ) → j < g.count → Follows g r i k → Follows g r j k → j ≡ i
one-guide g r i j k h e f = e.free j h f.living f.within
