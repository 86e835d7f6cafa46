-- Request T-14 in plain terms: the guider after a frame, guide by guide, and what a call keeps. Assumes nothing.
use Rattle.std.specs.Prelude.{Bool, not, ◌&&◌, ◌||◌, ◌≡◌, length}
use Rattle.std.proofs.Math.Bool.{true, false, cond}
use Rattle.std.proofs.Math.Path.{refl, ap}
use Rattle.std.proofs.Common.{sym, ◌∙◌, not-suc-le-zero, arith, get_or-set_same}
use Prim.Native.Nat.{ℕ, zero, suc, ◌≤◌, ◌<◌}
use Rattle.std.proofs.Math.Decide.{ℕ_discrete}
use Rattle.std.proofs.Math.ListN.{get_or, length-set}
use Rattle.std.proofs.Math.Seq.{get_or-set_other}
use Rattle.lists.specs.Contradiction.{contradiction}
use Rattle.lists.specs.TestsLaws.{and_right}
use Rattle.refusal.specs.declared.Refusal.{Refusal}
use Rattle.refusal.specs.Table.{refusal_of}
use Rattle.frame_list.specs.declared.Report.{Report}
use Rattle.frame_list.specs.declared.Listing.{Listing}
use Rattle.guider_rule.specs.declared.Guide.{Guide}
use Rattle.guider_rule.specs.declared.Guider.{Guider}
use Rattle.guider_rule.specs.Guider.{no_guide, guide_at, guide_after, guides_after, guider_after}
use Rattle.guider_rule.specs.Rule.{guider_ok, list_ok}
use Rattle.guider_rule.specs.RuleLaws.{OnFrame, GuiderRule, ListRule}
use Rattle.guider_rule.proofs.RuleLaws.{guider-keeps, guider-ok, list-keeps}
use Rattle.guider_rule.specs.Calls.{accepted, refused_with, seen_by, guided_of}
use Rattle.guider_rule.proofs.FollowLaws.{follower, misser, stayer, fates}
use Rattle.guider_rule.specs.AfterLaws.{Whole, is_accepted, counts}
use Rattle.std.specs.Prelude.{Result, Ok, Err}

module _ (g : Guider) (r : Report) where
  length-after : (n : ℕ) → length (guides_after g r n) ≡ length g.guides
  unfolding guides_after
  length-after zero = refl
  length-after (suc n) = length-set (guides_after g r n) n (guide_after g r n) ∙ length-after n

  at_after : (n i : ℕ) → i < n → i < length g.guides → get_or (guides_after g r n) i no_guide ≡ guide_after g r i
  unfolding guides_after
  at_after zero i h l = absurd (not-suc-le-zero h)
  at_after (suc n) i h l = go (ℕ_discrete i n) (λ b. at_after n i b l)
    where
      go : Dec (i ≡ n) → (i < n → get_or (guides_after g r n) i no_guide ≡ guide_after g r i) → get_or (guides_after g r (suc n)) i no_guide ≡ guide_after g r i
      go (yes q) f = rw q (get_or-set_same (guides_after g r n) n (guide_after g r n) no_guide (omega (arith, length-after n)))
      go (no d) f = get_or-set_other (guides_after g r n) n i (guide_after g r n) no_guide d ∙ f (omega arith)

  -- a guide does not move before its turn
  pub at-behind : (n i : ℕ) → n ≤ i → get_or (guides_after g r n) i no_guide ≡ guide_at g i
  unfolding guides_after
  at-behind zero i h = refl
  at-behind (suc n) i h = get_or-set_other (guides_after g r n) n i (guide_after g r n) no_guide (λ q. omega arith) ∙ at-behind n i (omega arith)

  pub whole-after : Whole g → Whole (guider_after g r)
  unfolding guider_after
  whole-after w = length-after g.count ∙ w

  pub guide-after : Whole g → g.count ≤ 4 → (i : ℕ) → i < g.count → guide_at (guider_after g r) i ≡ guide_after g r i
  unfolding guider_after
  guide-after w f i h = at_after g.count i h (omega arith)

  -- places behind the guides stay as they are
  pub guide-behind : (i : ℕ) → g.count ≤ i → guide_at (guider_after g r) i ≡ guide_at g i
  unfolding guider_after
  guide-behind i h = at-behind g.count i h

  -- ---- the rule is kept

  same-identity : (i : ℕ) → (guide_after g r i).identity ≡ (guide_at g i).identity
  same-identity i =
      fates g r i (λ k f. rw (follower g r i f)) (λ l f. rw (misser g r i l f)) (λ h. rw (stayer g r i h))

  at-most-five : (i : ℕ) → (guide_at g i).misses ≤ 5 → (guide_after g r i).misses ≤ 5
  at-most-five i b =
      fates g r i (λ k f. rw (follower g r i f) (omega arith)) (λ l f. rw (misser g r i l f) (omega arith)) (λ h. rw (stayer g r i h) b)

  still-on : ListRule r → (i : ℕ) → OnFrame (guide_at g i).x (guide_at g i).y → OnFrame (guide_after g r i).x (guide_after g r i).y
  still-on l i o =
      fates g r i (λ k f. rw (follower g r i f) (l.places k f.listed)) (λ h f. rw (misser g r i h f) o) (λ h. rw (stayer g r i h) o)

  pub rule-after : Whole g → GuiderRule g → ListRule r → GuiderRule (guider_after g r)
  unfolding guider_after
  rule-after w q l =
      record {
        narrow = q.narrow;
        few = q.few;
        places = λ i h. rw (guide-after w q.few i h) (still-on l i (q.places i h));
        believed = λ i h. rw (guide-after w q.few i h) (at-most-five i (q.believed i h));
        once = λ i j h b e. q.once i j h b (sym (identity i h) ∙ e ∙ identity j b);
      }
    where
      identity : (i : ℕ) → i < g.count → (guide_at (guider_after g r) i).identity ≡ (guide_at g i).identity
      identity i h = ap (λ (x : Guide). x.identity) (guide-after w q.few i h) ∙ same-identity i

module _ (g : Guider) (l : Listing) where
  -- refusal 22 exactly where the guider breaks its rule, or where the frame is accepted and its list breaks the rule
  pub refused-where : (guided_of g l).outcome ≡ cond (guider_ok g && (not (is_accepted l.outcome) || list_ok l.report)) (Ok tt) (refusal_of 22 0)
  unfolding guided_of
  refused-where = by (guider_ok g) refl l.outcome refl (list_ok l.report) refl
    where
      by : (t : Bool) → guider_ok g ≡ t → (o : Result Unit Refusal) → l.outcome ≡ o → (u : Bool) → list_ok l.report ≡ u
          → (cond (guider_ok g) (seen_by g l.report l.outcome) (refused_with g)).outcome
          ≡ cond (guider_ok g && (not (is_accepted l.outcome) || list_ok l.report)) (Ok tt) (refusal_of 22 0)
      by false e o f u q = rw e
      by true e (Err x) f u q = rw (e, f)
      by true e (Ok _) f true q = rw (e, f, q)
      by true e (Ok _) f false q = rw (e, f, q)

  -- a frame that counts is followed
  pub counted : guider_ok g ≡ true → counts l ≡ true → (guided_of g l).guider ≡ guider_after g l.report
  unfolding guided_of counts
  counted e c = by l.outcome refl c
    where
      by : (o : Result Unit Refusal) → l.outcome ≡ o → is_accepted o && list_ok l.report ≡ true
          → (cond (guider_ok g) (seen_by g l.report l.outcome) (refused_with g)).guider ≡ guider_after g l.report
      by (Ok _) f t = rw (e, f, t)
      by (Err x) f t = contradiction t

  -- every other frame leaves the guider as it is: a refused one, and one whose list breaks the rule
  pub uncounted : counts l ≡ false → (guided_of g l).guider ≡ g
  unfolding guided_of counts
  uncounted c = by (guider_ok g) refl l.outcome refl c
    where
      by : (t : Bool) → guider_ok g ≡ t → (o : Result Unit Refusal) → l.outcome ≡ o → is_accepted o && list_ok l.report ≡ false
          → (cond (guider_ok g) (seen_by g l.report l.outcome) (refused_with g)).guider ≡ g
      by false e o f t = rw e
      by true e (Err x) f t = rw (e, f)
      by true e (Ok _) f t = rw (e, f, t)

  -- and so does a call that is handed a guider that breaks its rule
  pub unruly : guider_ok g ≡ false → (guided_of g l).guider ≡ g
  unfolding guided_of
  unruly e = rw e

  -- a frame that is refused counts as none, whatever stands in its list
  pub refused-frame : (x : Refusal) → l.outcome ≡ Err x → (guided_of g l).guider ≡ g
  unfolding counts
  refused-frame x e = uncounted (rw e)

  -- what holds of the guider, and of it after a frame that counts, holds of the guider handed back
  pub handed : (P : Guider → Type 0) → P g → (guider_ok g ≡ true → ListRule l.report → P (guider_after g l.report)) → P (guided_of g l).guider
  unfolding counts
  handed P p f = by (counts l) refl (guider_ok g) refl
    where
      by : (c : Bool) → counts l ≡ c → (t : Bool) → guider_ok g ≡ t → P (guided_of g l).guider
      by false c t e = rw (uncounted c) p
      by true c false e = rw (unruly e) p
      by true c true e = rw (counted e c) (f e (list-keeps l.report (and_right (is_accepted l.outcome) _ c)))

  -- it keeps the rule
  pub rule-kept : Whole g → guider_ok g ≡ true → guider_ok (guided_of g l).guider ≡ true
  rule-kept w e = handed (λ x. guider_ok x ≡ true) e (λ t q. guider-ok _ (rule-after g l.report w (guider-keeps g t) q))

  pub whole-kept : Whole g → Whole (guided_of g l).guider
  whole-kept w = handed Whole w (λ t q. whole-after g l.report w)

  pub count_kept : (guided_of g l).guider.count ≡ g.count
  unfolding guider_after
  count_kept = handed (λ x. x.count ≡ g.count) refl (λ t q. refl)

  -- and an accepted call has at most four guides
  pub accepted-few : is_accepted (guided_of g l).outcome ≡ true → (guided_of g l).guider.count ≤ 4
  accepted-few e = by (guider_ok g) refl
    where
      not_so : guider_ok g ≡ false → is_accepted (guided_of g l).outcome ≡ false
      not_so q = ap is_accepted refused-where ∙ rw q

      by : (t : Bool) → guider_ok g ≡ t → (guided_of g l).guider.count ≤ 4
      by true q = omega (arith, count_kept, (guider-keeps g q).few)
      by false q = contradiction (sym (not_so q) ∙ e)
