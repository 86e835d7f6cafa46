-- The list that a frame gives always keeps the guider's rule, so the guider never refuses it. What is known of the list is the frame's own law. Assumes
-- nothing.
use Rattle.std.specs.Prelude.{Bool, true, false, cond, not, ◌||◌, List, ◌≡◌, refl, ℕ}
use Rattle.std.proofs.Common.{◌∙◌}
use Rattle.refusal.specs.Table.{refusal_of}
use Rattle.frame_list.specs.Calls.{listing_of}
use Rattle.frame_list.specs.ListingLaws.{Listed, listing-listed}
use Rattle.guider_rule.specs.declared.Guider.{Guider}
use Rattle.guider_rule.specs.Rule.{guider_ok}
use Rattle.guider_rule.specs.RuleLaws.{ListRule}
use Rattle.guider_rule.proofs.RuleLaws.{list-ok}
use Rattle.guider_rule.specs.Calls.{guided_of}
use Rattle.guider_rule.specs.AfterLaws.{is_accepted}
use Rattle.guider_rule.proofs.AfterLaws.{refused-where}
use Rattle.std.specs.Prelude.{Ok}

module _ (samples : List ℕ) (width height threshold : ℕ) where
  pub own-list : ListRule (listing_of samples width height threshold).report
  own-list =
      let l = listing-listed samples width height threshold in
      record { few = l.few; places = λ k h. record { across = l.across k; down = l.down k } }

  -- a guider that keeps the rule takes every frame
  pub own-frame : (g : Guider) → guider_ok g ≡ true → (guided_of g (listing_of samples width height threshold)).outcome ≡ Ok tt
  own-frame g e = refused-where g (listing_of samples width height threshold)
      ∙ rw (e, list-ok _ own-list) (either_way (is_accepted (listing_of samples width height threshold).outcome))
    where
      either_way : (b : Bool) → cond (not b || true) (Ok tt) (refusal_of 22 0) ≡ Ok tt
      either_way true = refl
      either_way false = refl
