-- Request T-14 in plain terms: the guider after a frame, guide by guide, and what a call keeps. Assumes nothing.
use Rattle.std.specs.Prelude.{Bool, not, ◌&&◌, ◌||◌, ◌≡◌, length}
use Rattle.std.proofs.Math.Bool.{true, false, cond}
use Rattle.std.proofs.Math.Path.{refl, ap}
use Rattle.std.proofs.Common.{sym, ◌∙◌, not-suc-le-zero, arith, get_or-set_same}
use Prim.Native.Nat.{ℕ, zero, suc, ◌≤◌, ◌<◌}
use Rattle.std.proofs.Math.Decide.{ℕ_discrete}
use Rattle.std.proofs.Math.ListN.{get_or, length-set}
use Rattle.std.proofs.Math.Seq.{get_or-set_other}
use Rattle.lists.specs.Contradiction.{contradiction}
use Rattle.lists.specs.TestsLaws.{and_right}
use Rattle.refusal.specs.declared.Refusal.{Refusal}
use Rattle.refusal.specs.Table.{refusal_of}
use Rattle.frame_list.specs.declared.Report.{Report}
use Rattle.frame_list.specs.declared.Listing.{Listing}
use Rattle.guider_rule.specs.declared.Guide.{Guide}
use Rattle.guider_rule.specs.declared.Guider.{Guider}
use Rattle.guider_rule.specs.Guider.{no_guide, guide_at, guide_after, guides_after, guider_after}
use Rattle.guider_rule.specs.Rule.{guider_ok, list_ok}
use Rattle.guider_rule.specs.RuleLaws.{OnFrame, GuiderRule, ListRule}
use Rattle.guider_rule.specs.Calls.{accepted, refused_with, seen_by, guided_of}
use Rattle.std.specs.Prelude.{Result, Ok, Err}

-- an array of guides has four places
abbrev pub Whole : Guider → Type 0
Whole g = length g.guides ≡ 4

-- ---- guide by guide

-- ---- a call

abbrev pub is_accepted : Result Unit Refusal → Bool
is_accepted (Ok _) = true
is_accepted (Err _) = false

-- a frame that counts: accepted, with a list that keeps the rule
unfoldable pub counts : Listing → Bool
counts l = is_accepted l.outcome && list_ok l.report
