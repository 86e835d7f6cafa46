-- Request T-14: a chain of frames is the step repeated, shown once for any number of them; so a guide is dropped exactly at the fifth miss in a row.
-- Assumes nothing.
use Rattle.std.specs.Prelude.{Bool, true, false, ◌≡◌}
use Rattle.std.proofs.Math.Path.{refl, ap}
use Rattle.std.proofs.Common.{◌∙◌, add-zero, add-suc}
use Prim.Native.Nat.{ℕ, zero, suc, ◌+◌, ◌≤◌, ◌<◌, min}
use Rattle.std.proofs.Math.Decide.{dec_lt}
use Rattle.std.proofs.Math.Numerals.{add-one}
use native.Mathlib.Omega.{arith}
use Rattle.lists.specs.Number.{one, number}
use Rattle.frame_list.specs.declared.Listing.{Listing}
use Rattle.guider_rule.specs.declared.Guide.{Guide}
use Rattle.guider_rule.specs.declared.Guider.{Guider}
use Rattle.lists.proofs.One.{all-counted}
use Rattle.guider_rule.specs.Guider.{guide_at, star_at, moved, guide_after, guider_after}
use Rattle.guider_rule.specs.Rule.{guider_ok}
use Rattle.guider_rule.proofs.RuleLaws.{guider-keeps}
use Rattle.guider_rule.specs.Calls.{guided_of}
use Rattle.guider_rule.specs.FollowLaws.{Follows}
use Rattle.guider_rule.proofs.FollowLaws.{follower, misser, stayer}
use Rattle.guider_rule.specs.AfterLaws.{Whole, counts}
use Rattle.guider_rule.proofs.AfterLaws.{guide-after, guide-behind, counted, uncounted, handed, rule-kept, whole-kept, count_kept}
use Rattle.guider_rule.specs.ChainLaws.{guider_at, with_misses, late_by}

module _ (g : Guider) (l : Listing) (i : ℕ) (w : Whole g) where
  -- a dropped guide's record does not change
  pub dropped-stays : 5 ≤ (guide_at g i).misses → guide_at (guided_of g l).guider i ≡ guide_at g i
  dropped-stays h = handed g l (λ x. guide_at x i ≡ guide_at g i) refl (λ t q. go (guider-keeps g t).few (dec_lt i g.count))
    where
      go : g.count ≤ 4 → Dec (i < g.count) → guide_at (guider_after g l.report) i ≡ guide_at g i
      go f (yes b) = guide-after g l.report w f i b ∙ stayer g l.report i h
      go f (no b) = guide-behind g l.report i (omega arith)

  module _ (ok : guider_ok g ≡ true) (here : i < g.count) where
    -- a guide that follows has missed nothing
    pub follow-step : {k : ℕ} → counts l ≡ true → Follows g l.report i k → guide_at (guided_of g l).guider i ≡ moved (guide_at g i) (star_at l.report k)
    follow-step c f = ap (λ (x : Guider). guide_at x i) (counted g l ok c) ∙ guide-after g l.report w (guider-keeps g ok).few i here
        ∙ follower g l.report i f

    -- one that does not is one miss later, if the frame counts
    pub miss-step : ((k : ℕ) → Follows g l.report i k → ⊥) → guide_at (guided_of g l).guider i ≡ late_by (guide_at g i) (one (counts l))
    miss-step f = by (counts l) refl
      where
        b : (guide_at g i).misses ≤ 5
        b = (guider-keeps g ok).believed i here

        go : Dec ((guide_at g i).misses < 5) → guide_after g l.report i ≡ late_by (guide_at g i) 1
        go (yes h) = misser g l.report i h f ∙ ap (with_misses (guide_at g i)) (omega arith)
        go (no h) = stayer g l.report i (omega arith) ∙ ap (with_misses (guide_at g i)) (omega (arith, b))

        by : (c : Bool) → counts l ≡ c → guide_at (guided_of g l).guider i ≡ late_by (guide_at g i) (one c)
        by false c = ap (λ (x : Guider). guide_at x i) (uncounted g l c) ∙ ap (with_misses (guide_at g i)) (omega (arith, b))
        by true c =
            ap (λ (x : Guider). guide_at x i) (counted g l ok c)
            ∙ guide-after g l.report w (guider-keeps g ok).few i here
            ∙ go (dec_lt (guide_at g i).misses 5)

module _ (g : Guider) (frames : ℕ → Listing) where
  pub chain_next : (n : ℕ) → guider_at g frames (n + 1) ≡ (guided_of (guider_at g frames n) (frames n)).guider
  unfolding guider_at
  chain_next n = rw add-one

  -- what comes behind m frames is a chain of its own
  pub chain-joined : (m n : ℕ) → guider_at g frames (m + n) ≡ guider_at (guider_at g frames m) (λ k. frames (m + k)) n
  unfolding guider_at
  chain-joined m zero = ap (guider_at g frames) (add-zero m)
  chain-joined m (suc n) = ap (guider_at g frames) (add-suc m n) ∙ ap (λ (x : Guider). (guided_of x (frames (m + n))).guider) (chain-joined m n)

  pub chain-count : (n : ℕ) → (guider_at g frames n).count ≡ g.count
  unfolding guider_at
  chain-count zero = refl
  chain-count (suc n) = count_kept (guider_at g frames n) (frames n) ∙ chain-count n

  module _ (w : Whole g) where
    pub chain-whole : (n : ℕ) → Whole (guider_at g frames n)
    unfolding guider_at
    chain-whole zero = w
    chain-whole (suc n) = whole-kept (guider_at g frames n) (frames n) (chain-whole n)

    -- once dropped, dropped for good, and its record as it was
    pub dropped-for-good : (i : ℕ) → 5 ≤ (guide_at g i).misses → (n : ℕ) → guide_at (guider_at g frames n) i ≡ guide_at g i
    unfolding guider_at
    dropped-for-good i h zero = refl
    dropped-for-good i h (suc n) =
        let e = dropped-for-good i h n in
        let b : 5 ≤ (guide_at (guider_at g frames n) i).misses = rw e h in
        dropped-stays (guider_at g frames n) (frames n) i (chain-whole n) b ∙ e

    module _ (ok : guider_ok g ≡ true) where
      -- a guider that keeps the rule keeps it through all frames, so no frame is refused for it
      pub chain-rule : (n : ℕ) → guider_ok (guider_at g frames n) ≡ true
      unfolding guider_at
      chain-rule zero = ok
      chain-rule (suc n) = rule-kept (guider_at g frames n) (frames n) (chain-whole n) (chain-rule n)

      module _ (i : ℕ) (here : i < g.count) where
        -- a guide that follows at none of n frames has as many misses more as frames counted, and five at the most
        pub missed-in-a-row : (n : ℕ) → ((m k : ℕ) → m < n → Follows (guider_at g frames m) (frames m).report i k → ⊥)
            → guide_at (guider_at g frames n) i ≡ late_by (guide_at g i) (number n (λ m. counts (frames m)))
        unfolding guider_at number
        missed-in-a-row zero f = ap (with_misses (guide_at g i)) (omega (arith, (guider-keeps g ok).believed i here))
        missed-in-a-row (suc n) f =
            let e = missed-in-a-row n (λ m k h. f m k (omega arith)) in
            let o = one (counts (frames n)) in
            miss-step (guider_at g frames n) (frames n) i (chain-whole n) (chain-rule n) (omega (arith, chain-count n)) (λ k. f n k (omega arith))
            ∙ ap (λ (x : Guide). late_by x o) e
            ∙ ap (with_misses (guide_at g i)) (joined (guide_at g i).misses (number n (λ m. counts (frames m))) o)
          where
            joined : (a b c : ℕ) → min 5 (min 5 (a + b) + c) ≡ min 5 (a + (b + c))
            joined a b c = omega arith

        -- so with none before and n frames that count it has n, or five: it is live until the fifth and dropped at the fifth
        pub dropped-at-the-fifth : (guide_at g i).misses ≡ 0 → (n : ℕ) → ((m : ℕ) → m < n → counts (frames m) ≡ true)
            → ((m k : ℕ) → m < n → Follows (guider_at g frames m) (frames m).report i k → ⊥) → (guide_at (guider_at g frames n) i).misses ≡ min 5 n
        dropped-at-the-fifth z n c f =
            ap (λ (x : Guide). x.misses) (missed-in-a-row n f)
            ∙ omega (arith, all-counted n (λ m. counts (frames m)) c)
