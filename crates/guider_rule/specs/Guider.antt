-- Request T-14: guide boxes. A guide is followed in a closed box around its last position; all boxes, and which guides are live, are those before the frame.
-- Assumes nothing.
use Rattle.std.specs.Prelude.{Bool, cond, not, ◌&&◌, List, ℕ, zero, suc, ◌+◌, ◌-◌, get_or, set, eqb, leb, ltb}
use Rattle.lists.specs.First.{first}
use Rattle.lists.specs.Number.{number}
use Rattle.lists.specs.Tests.{some}
use Rattle.frame_centroid.specs.declared.Centroid.{Centroid}
use Rattle.frame_list.specs.declared.Report.{Report}
use Rattle.frame_list.specs.Stars.{nought}
use Rattle.guider_rule.specs.declared.Guide.{Guide}
use Rattle.guider_rule.specs.declared.Guider.{Guider}

abbrev pub no_guide : Guide
no_guide = record { identity = 0; x = 0; y = 0; misses = 0 }

abbrev pub guide_at : Guider → ℕ → Guide
guide_at g i = get_or g.guides i no_guide

abbrev pub star_at : Report → ℕ → Centroid
star_at r k = get_or r.stars k nought

-- ---- boxes

-- how far apart two numbers are: one of the two differences is 0
abbrev pub apart : ℕ → ℕ → ℕ
apart a b = (a - b) + (b - a)

-- the box is closed: a star at its border lies in it
abbrev pub in_box : ℕ → Guide → Centroid → Bool
in_box half guide star = leb (apart guide.x star.x) half && leb (apart guide.y star.y) half

-- the misses at which a guide is dropped
abbrev pub dropped : ℕ
dropped = 5

abbrev pub live : Guide → Bool
live guide = ltb guide.misses dropped

-- the guide is live and has the star in its box
abbrev pub claimed : ℕ → Guide → Centroid → Bool
claimed half guide star = live guide && in_box half guide star

abbrev pub claims : Guider → Centroid → ℕ → Bool
claims g star i = claimed g.half (guide_at g i) star

-- some live guide other than guide i has the star in its box
unfoldable pub shared : Guider → ℕ → Centroid → Bool
shared g i star = some g.count (λ j. not (eqb j i) && claims g star j)

-- listed star k lies in the box of guide i
abbrev pub inside : Guider → Report → ℕ → ℕ → Bool
inside g r i k = in_box g.half (guide_at g i) (star_at r k)

-- the first listed star in the box of guide i
abbrev pub star_in : Guider → Report → ℕ → Centroid
star_in g r i = star_at r (first (inside g r i) r.count)

-- exactly one listed star lies in the box of guide i, and that star is in no other live guide's box
unfoldable pub follows : Guider → Report → ℕ → Bool
follows g r i = eqb (number r.count (inside g r i)) 1 && not (shared g i (star_in g r i))

-- ---- one frame

abbrev pub moved : Guide → Centroid → Guide
moved guide star = record { identity = guide.identity; x = star.x; y = star.y; misses = 0 }

abbrev pub missed : Guide → Guide
missed guide = record { identity = guide.identity; x = guide.x; y = guide.y; misses = guide.misses + 1 }

-- guide i after the frame: a dropped one does not change any more
unfoldable pub guide_after : Guider → Report → ℕ → Guide
guide_after g r i =
    cond (live (guide_at g i)) (cond (follows g r i) (moved (guide_at g i) (star_in g r i)) (missed (guide_at g i))) (guide_at g i)

-- the guides, the first n of them after the frame
unfoldable pub guides_after : Guider → Report → ℕ → List Guide
guides_after g r zero = g.guides
guides_after g r (suc n) = set (guides_after g r n) n (guide_after g r n)

unfoldable pub guider_after : Guider → Report → Guider
guider_after g r = record { half = g.half; count = g.count; guides = guides_after g r g.count }
