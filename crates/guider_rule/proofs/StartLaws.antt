-- Request T-14 in plain terms: which guiders a start makes. Assumes nothing.
use Rattle.std.specs.Prelude.{Bool, List, ℕ, zero, suc, ◌≤◌, ◌<◌}
use Rattle.std.proofs.Math.Bool.{true, false, cond}
use Rattle.std.proofs.Math.Path.{◌≡◌, refl}
use Rattle.std.proofs.Common.{sym, ap, ◌∙◌, arith}
use Rattle.guider_rule.specs.declared.Guide.{Guide}
use Rattle.guider_rule.specs.declared.Sighting.{Sighting}
use Rattle.guider_rule.specs.Guider.{guide_at}
use Rattle.guider_rule.specs.Rule.{widest, guider_ok}
use Rattle.guider_rule.specs.RuleLaws.{OnFrame, GuiderRule}
use Rattle.guider_rule.proofs.RuleLaws.{guider-keeps, guider-ok}
use Rattle.guider_rule.specs.Calls.{accepted, refused_with, nobody, sighting_at, fresh_guide, fresh_of, started_of}
use Rattle.guider_rule.specs.AfterLaws.{Whole}
use Rattle.guider_rule.specs.StartLaws.{Startable}
use Rattle.std.specs.Prelude.{Ok}

module _ (half : ℕ) (stars : List Sighting) (count : ℕ) where
  pub fresh-whole : Whole (fresh_of half stars count)
  fresh-whole = refl

  -- guide i is the one handed in, with no misses
  pub fresh-guide : (i : ℕ) → i < 4 → guide_at (fresh_of half stars count) i ≡ fresh_guide (sighting_at stars i)
  fresh-guide zero h = refl
  fresh-guide (suc zero) h = refl
  fresh-guide (suc (suc zero)) h = refl
  fresh-guide (suc (suc (suc zero))) h = refl
  fresh-guide (suc (suc (suc (suc i)))) h = absurd (omega arith)

  module _ (few : count ≤ 4) (i : ℕ) (h : i < count) where
    here : guide_at (fresh_of half stars count) i ≡ fresh_guide (sighting_at stars i)
    here = fresh-guide i (omega arith)

    identity : (guide_at (fresh_of half stars count) i).identity ≡ (sighting_at stars i).identity
    identity = ap (λ (x : Guide). x.identity) here

  fresh-rule : Startable half stars count → GuiderRule (fresh_of half stars count)
  fresh-rule s =
      record {
        narrow = s.narrow;
        few = s.few;
        places = λ i h. rw (here s.few i h) (s.places i h);
        believed = λ i h. rw (here s.few i h) (omega arith);
        once = λ i j h l e. s.once i j h l (sym (identity s.few i h) ∙ e ∙ identity s.few j l);
      }

  rule-fresh : GuiderRule (fresh_of half stars count) → Startable half stars count
  rule-fresh q =
      record {
        narrow = q.narrow;
        few = q.few;
        places = λ i h. rw (here q.few i h) at (q.places i h);
        once = λ i j h l e. q.once i j h l (identity q.few i h ∙ e ∙ sym (identity q.few j l));
      }

  -- a start that meets what is asked makes that guider
  pub started : Startable half stars count → started_of half stars count ≡ accepted (fresh_of half stars count)
  unfolding started_of
  started s = rw (guider-ok _ (fresh-rule s))

  -- and only such a start is accepted
  pub startable : (started_of half stars count).outcome ≡ Ok tt → Startable half stars count
  unfolding started_of
  startable e = by (guider_ok (fresh_of half stars count)) refl e
    where
      by : (t : Bool) → guider_ok (fresh_of half stars count) ≡ t → (cond t (accepted (fresh_of half stars count)) (refused_with nobody)).outcome ≡ Ok tt
          → Startable half stars count
      by true q f = rule-fresh (guider-keeps (fresh_of half stars count) q)
      by false q f = let z : ◌≡◌ {A = ℕ} 0 1 = cc in absurd (omega arith)

  -- every other makes none: refusal 22, and a guider of zeros
  pub refused-start : (Startable half stars count → ⊥) → started_of half stars count ≡ refused_with nobody
  unfolding started_of
  refused-start f = by (guider_ok (fresh_of half stars count)) refl
    where
      by : (t : Bool) → guider_ok (fresh_of half stars count) ≡ t → cond (guider_ok (fresh_of half stars count)) (accepted (fresh_of half stars count))
          (refused_with nobody) ≡ refused_with nobody
      by false e = rw e
      by true e = absurd (f (rule-fresh (guider-keeps (fresh_of half stars count) e)))
