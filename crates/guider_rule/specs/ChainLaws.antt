-- Request T-14: a chain of frames is the step repeated, shown once for any number of them; so a guide is dropped exactly at the fifth miss in a row.
-- Assumes nothing.
use Rattle.std.specs.Prelude.{Bool, true, false, ◌≡◌}
use Rattle.std.proofs.Math.Path.{refl, ap}
use Rattle.std.proofs.Common.{◌∙◌, add-zero, add-suc}
use Prim.Native.Nat.{ℕ, zero, suc, ◌+◌, ◌≤◌, ◌<◌, min}
use Rattle.std.proofs.Math.Decide.{dec_lt}
use Rattle.std.proofs.Math.Numerals.{add-one}
use native.Mathlib.Omega.{arith}
use Rattle.lists.specs.Number.{one, number}
use Rattle.frame_list.specs.declared.Listing.{Listing}
use Rattle.guider_rule.specs.declared.Guide.{Guide}
use Rattle.guider_rule.specs.declared.Guider.{Guider}
use Rattle.lists.proofs.One.{all-counted}
use Rattle.guider_rule.specs.Guider.{guide_at, star_at, moved, guide_after, guider_after}
use Rattle.guider_rule.specs.Rule.{guider_ok}
use Rattle.guider_rule.specs.Calls.{guided_of}
use Rattle.guider_rule.specs.FollowLaws.{Follows}
use Rattle.guider_rule.specs.AfterLaws.{Whole, counts}

-- the guider after n frames
unfoldable pub guider_at : Guider → (ℕ → Listing) → ℕ → Guider
guider_at g frames zero = g
guider_at g frames (suc n) = (guided_of (guider_at g frames n) (frames n)).guider

abbrev pub with_misses : Guide → ℕ → Guide
with_misses guide n = record { identity = guide.identity; x = guide.x; y = guide.y; misses = n }

-- the guide where it was, with n misses more, and five at the most
abbrev pub late_by : Guide → ℕ → Guide
late_by guide n = with_misses guide (min 5 (guide.misses + n))

-- ---- one frame

-- ---- any number of frames
