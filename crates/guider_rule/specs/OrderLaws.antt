-- Request T-14: the order of guides changes nothing. Where two guides are exchanged, the answer is the same, and the guiders after differ by the same exchange.
-- Assumes nothing.
use Rattle.std.specs.Prelude.{Bool, true, false, ◌≡◌, refl, ℕ, zero, suc, ◌≤◌, ◌<◌, eqb, length, set}
use Rattle.std.proofs.Math.Bool.{cond}
use mathlib.Core.List.{List}
use Rattle.std.proofs.Math.Path.{sym, ap}
use Rattle.std.proofs.Common.{◌∙◌, arith, ext_get_or}
use Rattle.std.proofs.Math.Decide.{dec_lt, ℕ_discrete}
use Rattle.std.proofs.Math.ListN.{length-set}
use Rattle.std.proofs.Math.Seq.{get_or-set_same, get_or-set_other}
use borrow.Author.Tests.{eq-eqb, ne_eqb}
use Rattle.lists.specs.Contradiction.{contradiction}
use Rattle.frame_list.specs.declared.Report.{Report}
use Rattle.frame_list.specs.declared.Listing.{Listing}
use Rattle.guider_rule.specs.declared.Guide.{Guide}
use Rattle.guider_rule.specs.declared.Guider.{Guider}
use Rattle.guider_rule.specs.Guider.{no_guide, guide_at, star_at, moved, missed, guide_after, guider_after}
use Rattle.guider_rule.specs.Rule.{guider_ok}
use Rattle.guider_rule.specs.RuleLaws.{GuiderRule}
use Rattle.guider_rule.specs.Calls.{guided_of}
use Rattle.guider_rule.specs.FollowLaws.{Follows}
use Rattle.guider_rule.specs.AfterLaws.{Whole, counts}
use Rattle.guider_rule.specs.ChainLaws.{guider_at}

-- the guider with guides a and b exchanged
abbrev pub exchanged : ℕ → ℕ → Guider → Guider
exchanged a b g = record { half = g.half; count = g.count; guides = set (set g.guides a (guide_at g b)) b (guide_at g a) }

-- ---- where guide i comes from

-- ---- the frame's work, guide by guide

-- ---- a call
