-- Each answer is the case of `guide_after` that its tests choose.
use Rattle.std.proofs.Common.{◌≡◌, sym, ap, ◌∙◌, Bool, true, false, ℕ, ◌<◌, arith}
use borrow.Author.Tests.{lt-ltb, eq-eqb, ne_eqb}
use Rattle.frame_centroid.specs.declared.Centroid.{Centroid}
use Rattle.frame_list.specs.declared.Report.{Report}
use Rattle.lists.specs.Number.{number}
use Rattle.guider_rule.specs.declared.Guider.{Guider}
use Rattle.guider_rule.specs.Guider.{guide_at, inside, shared, star_in, follows, moved, missed, guide_after}
use Rattle.guider_rule.proofs.FollowLaws.{stayer}
use Rattle.guider.specs.boxes.Single.{Alone}
use Rattle.guider.proofs.boxes.guide_after.Goals as goal

module _ (g : Guider) (r : Report) (i : ℕ) (live : (guide_at g i).misses < 5) where
  -- no star lies in the box, or more than one
  not-one : (number r.count (inside g r i) ≡ 1 → ⊥) → missed (guide_at g i) ≡ guide_after g r i
  unfolding guide_after follows
  not-one f = rw (lt-ltb _ 5 live, ne_eqb _ _ f)

  module _ (star : Centroid) (a : Alone g.half (guide_at g i) r r.count star) where
    said : {t : Bool} → shared g i star ≡ t → shared g i (star_in g r i) ≡ t
    said t = ap (shared g i) (sym a.this) ∙ t

    not-alone : shared g i star ≡ true → missed (guide_at g i) ≡ guide_after g r i
    unfolding guide_after follows
    not-alone t = rw (lt-ltb _ 5 live, eq-eqb _ _ a.one, said t)

    alone : shared g i star ≡ false → moved (guide_at g i) star ≡ guide_after g r i
    unfolding guide_after follows
    alone t = rw (lt-ltb _ 5 live, eq-eqb _ _ a.one, said t) (ap (moved (guide_at g i)) a.this)

pub returns-then-guide-ge-DROPPED : goal.returns-then-guide-ge-DROPPED
returns-then-guide-ge-DROPPED c = sym (stayer c.args.boxes.now.guider c.args.boxes.now.report c.args.i (omega arith))

pub returns-in_default : goal.returns-in_default
returns-in_default c = c.missed.ensures ∙ not-one c.args.boxes.now.guider c.args.boxes.now.report c.args.i (omega arith) c.in_default.ensures

pub returns-then-is_shared : goal.returns-then-is_shared
returns-then-is_shared c =
    c.missed-then-is_shared.ensures
    ∙ not-alone c.args.boxes.now.guider c.args.boxes.now.report c.args.i (omega arith) c.in-Some.star c.in-Some.ensures (sym c.is_shared.ensures ∙ c.if-is_shared.true)

pub returns : goal.returns
returns c =
    alone c.args.boxes.now.guider c.args.boxes.now.report c.args.i (omega arith) c.in-Some.star c.in-Some.ensures (sym c.is_shared.ensures ∙ c.if-is_shared.false)
