-- Request T-14: the order of guides changes nothing. Where two guides are exchanged, the answer is the same, and the guiders after differ by the same exchange.
-- Assumes nothing.
use Rattle.std.specs.Prelude.{Bool, true, false, ◌≡◌, refl, ℕ, zero, suc, ◌≤◌, ◌<◌, eqb, length, set}
use Rattle.std.proofs.Math.Bool.{cond}
use mathlib.Core.List.{List}
use Rattle.std.proofs.Math.Path.{sym, ap}
use Rattle.std.proofs.Common.{◌∙◌, arith, ext_get_or}
use Rattle.std.proofs.Math.Decide.{dec_lt, ℕ_discrete}
use Rattle.std.proofs.Math.ListN.{length-set}
use Rattle.std.proofs.Math.Seq.{get_or-set_same, get_or-set_other}
use borrow.Author.Tests.{eq-eqb, ne_eqb}
use Rattle.lists.specs.Contradiction.{contradiction}
use Rattle.frame_list.specs.declared.Report.{Report}
use Rattle.frame_list.specs.declared.Listing.{Listing}
use Rattle.guider_rule.specs.declared.Guide.{Guide}
use Rattle.guider_rule.specs.declared.Guider.{Guider}
use Rattle.guider_rule.specs.Guider.{no_guide, guide_at, star_at, moved, missed, guide_after, guider_after}
use Rattle.guider_rule.specs.Rule.{guider_ok}
use Rattle.guider_rule.specs.RuleLaws.{GuiderRule}
use Rattle.guider_rule.proofs.RuleLaws.{guider-keeps, guider-ok}
use Rattle.guider_rule.specs.Calls.{guided_of}
use Rattle.guider_rule.specs.FollowLaws.{Follows}
use Rattle.guider_rule.proofs.FollowLaws.{follower, misser, stayer, fates}
use Rattle.guider_rule.specs.AfterLaws.{Whole, counts}
use Rattle.guider_rule.proofs.AfterLaws.{guide-after, guide-behind, whole-after, counted, uncounted, unruly, refused-where}
use Rattle.guider_rule.specs.ChainLaws.{guider_at}
use Rattle.guider_rule.proofs.ChainLaws.{chain-whole, chain-count}
use Rattle.guider_rule.specs.OrderLaws.{exchanged}

turn : ℕ → ℕ → ℕ → ℕ
turn a b i = cond (eqb i a) b (cond (eqb i b) a i)

module _ (a b : ℕ) where
  turn-first : (i : ℕ) → i ≡ a → turn a b i ≡ b
  unfolding turn
  turn-first i e = rw (eq-eqb i a e)

  turn-second : (i : ℕ) → i ≡ b → turn a b i ≡ a
  unfolding turn
  turn-second i e = go (ℕ_discrete i a)
    where
      go : Dec (i ≡ a) → cond (eqb i a) b (cond (eqb i b) a i) ≡ a
      go (yes q) = rw (eq-eqb i a q) (sym e ∙ q)
      go (no q) = rw (ne_eqb i a q, eq-eqb i b e)

  turn-other : (i : ℕ) → (i ≡ a → ⊥) → (i ≡ b → ⊥) → turn a b i ≡ i
  unfolding turn
  turn-other i p q = rw (ne_eqb i a p, ne_eqb i b q)

  -- a test of all three cases
  turned : (P : ℕ → ℕ → Type 0) → P a b → P b a → ((i : ℕ) → (i ≡ a → ⊥) → (i ≡ b → ⊥) → P i i) → (i : ℕ) → P i (turn a b i)
  turned P p q r i = go (ℕ_discrete i a) (ℕ_discrete i b)
    where
      go : Dec (i ≡ a) → Dec (i ≡ b) → P i (turn a b i)
      go (yes e) d = rw (turn-first i e, e) p
      go (no e) (yes f) = rw (turn-second i f, f) q
      go (no e) (no f) = rw (turn-other i e f) (r i e f)

  turn-back : (i : ℕ) → turn a b (turn a b i) ≡ i
  turn-back i = turned (λ x y. turn a b y ≡ x) (turn-second b refl) (turn-first a refl) turn-other i

  turn_below : (n : ℕ) → a < n → b < n → (i : ℕ) → i < n → turn a b i < n
  turn_below n ha hb i = turned (λ x y. x < n → y < n) (λ _. hb) (λ _. ha) (λ x p q h. h) i

  turn-behind : (n : ℕ) → a < n → b < n → (i : ℕ) → n ≤ i → n ≤ turn a b i
  turn-behind n ha hb i = turned (λ x y. n ≤ x → n ≤ y) (λ h. absurd (omega arith)) (λ h. absurd (omega arith)) (λ x p q h. h) i

  module _ (g : Guider) (ha : a < length g.guides) (hb : b < length g.guides) where
    halfway : List Guide
    halfway = set g.guides a (guide_at g b)

    at_second : guide_at (exchanged a b g) b ≡ guide_at g a
    unfolding halfway
    at_second = get_or-set_same halfway b (guide_at g a) no_guide (rw length-set hb)

    at_first : guide_at (exchanged a b g) a ≡ guide_at g b
    unfolding halfway
    at_first = go (ℕ_discrete a b)
      where
        go : Dec (a ≡ b) → guide_at (exchanged a b g) a ≡ guide_at g b
        go (yes e) = ap (λ (i : ℕ). guide_at (exchanged a b g) i) e ∙ at_second ∙ ap (λ (i : ℕ). guide_at g i) e
        go (no d) = get_or-set_other halfway b a (guide_at g a) no_guide d ∙ get_or-set_same g.guides a (guide_at g b) no_guide ha

    exchanged-at : (i : ℕ) → guide_at (exchanged a b g) i ≡ guide_at g (turn a b i)
    unfolding halfway
    exchanged-at i =
        turned (λ x y. guide_at (exchanged a b g) x ≡ guide_at g y) at_first at_second
        (λ x p q. get_or-set_other halfway b x (guide_at g a) no_guide q ∙ get_or-set_other g.guides a x (guide_at g b) no_guide p)
        i

    exchanged-turned : (i : ℕ) → guide_at (exchanged a b g) (turn a b i) ≡ guide_at g i
    exchanged-turned i = exchanged-at (turn a b i) ∙ ap (λ (j : ℕ). guide_at g j) (turn-back i)

  length_exchanged : (g : Guider) → length (exchanged a b g).guides ≡ length g.guides
  length_exchanged g = length-set (set g.guides a (guide_at g b)) b (guide_at g a) ∙ length-set g.guides a (guide_at g b)

  -- exchanged twice is as before
  exchanged-back : (g : Guider) → a < length g.guides → b < length g.guides → exchanged a b (exchanged a b g) ≡ g
  exchanged-back g ha hb =
      let l = length_exchanged g in
      ap (λ (gs : List Guide). record { half = g.half; count = g.count; guides = gs })
      (ext_get_or no_guide _ _ (length_exchanged (exchanged a b g) ∙ l)
      (λ i h. exchanged-at (exchanged a b g) (rw l ha) (rw l hb) i ∙ exchanged-turned g ha hb i))

module _ (a b : ℕ) (g : Guider) (w : Whole g) (few : g.count ≤ 4) (ha : a < g.count) (hb : b < g.count) where
  turned-at : (i : ℕ) → guide_at (exchanged a b g) i ≡ guide_at g (turn a b i)
  turned-at = exchanged-at a b g (omega arith) (omega arith)

  at-turned : (i : ℕ) → guide_at (exchanged a b g) (turn a b i) ≡ guide_at g i
  at-turned = exchanged-turned a b g (omega arith) (omega arith)

  rule-exchanged : GuiderRule g → GuiderRule (exchanged a b g)
  rule-exchanged q =
      record {
        narrow = q.narrow;
        few = q.few;
        places = λ i h. rw (turned-at i) (q.places (turn a b i) (turn_below a b g.count ha hb i h));
        believed = λ i h. rw (turned-at i) (q.believed (turn a b i) (turn_below a b g.count ha hb i h));
        once = λ i j h l e. back i j (q.once (turn a b i) (turn a b j) (turn_below a b g.count ha hb i h) (turn_below a b g.count ha hb j l)
            (same i j e));
      }
    where
      back : (i j : ℕ) → turn a b i ≡ turn a b j → i ≡ j
      back i j e = sym (turn-back a b i) ∙ ap (turn a b) e ∙ turn-back a b j

      same : (i j : ℕ) → (guide_at (exchanged a b g) i).identity ≡ (guide_at (exchanged a b g) j).identity
          → (guide_at g (turn a b i)).identity ≡ (guide_at g (turn a b j)).identity
      same i j e = sym (ap (λ (x : Guide). x.identity) (turned-at i)) ∙ e ∙ ap (λ (x : Guide). x.identity) (turned-at j)

  module _ (r : Report) (i : ℕ) where
    follows_to : {k : ℕ} → Follows (exchanged a b g) r i k → Follows g r (turn a b i) k
    follows_to f =
        record {
          living = rw (turned-at i) at f.living;
          listed = f.listed;
          within = rw (turned-at i) at f.within;
          alone = λ m h q. f.alone m h (rw (turned-at i) q);
          free = λ j h l q. over j (f.free (turn a b j) (turn_below a b g.count ha hb j h) (rw (at-turned j) l) (rw (at-turned j) q));
        }
      where
        over : (j : ℕ) → turn a b j ≡ i → j ≡ turn a b i
        over j e = sym (turn-back a b j) ∙ ap (turn a b) e

    follows-from : {k : ℕ} → Follows g r (turn a b i) k → Follows (exchanged a b g) r i k
    follows-from f =
        record {
          living = rw (turned-at i) f.living;
          listed = f.listed;
          within = rw (turned-at i) f.within;
          alone = λ m h q. f.alone m h (rw (turned-at i) at q);
          free = λ j h l q. over j (f.free (turn a b j) (turn_below a b g.count ha hb j h) (rw (turned-at j) at l) (rw (turned-at j) at q));
        }
      where
        over : (j : ℕ) → turn a b j ≡ turn a b i → j ≡ i
        over j e = sym (turn-back a b j) ∙ ap (turn a b) e ∙ turn-back a b i

    after-turned : guide_after (exchanged a b g) r i ≡ guide_after g r (turn a b i)
    after-turned =
        fates g r (turn a b i)
        (λ k f. follower (exchanged a b g) r i (follows-from f) ∙ ap (λ (x : Guide). moved x (star_at r k)) (turned-at i) ∙ sym (follower g r (turn a b i) f))
        (λ h f. misser (exchanged a b g) r i (rw (turned-at i) h) (λ k q. f k (follows_to q)) ∙ ap missed (turned-at i) ∙ sym (misser g r (turn a b i) h f))
        (λ h. stayer (exchanged a b g) r i (rw (turned-at i) h) ∙ turned-at i ∙ sym (stayer g r (turn a b i) h))

  whole-exchanged : Whole (exchanged a b g)
  whole-exchanged = length_exchanged a b g ∙ w

  -- the guider after the frame
  pub after-exchanged : (r : Report) → guider_after (exchanged a b g) r ≡ exchanged a b (guider_after g r)
  unfolding guider_after
  after-exchanged r =
      ap (λ (gs : List Guide). record { half = g.half; count = g.count; guides = gs })
      (ext_get_or no_guide _ _ (whole-after (exchanged a b g) r whole-exchanged ∙ sym (length_exchanged a b (guider_after g r) ∙ after))
      (λ i h. at i (dec_lt i g.count)))
    where
      after : Whole (guider_after g r)
      after = whole-after g r w

      turned-after : (i : ℕ) → guide_at (exchanged a b (guider_after g r)) i ≡ guide_at (guider_after g r) (turn a b i)
      turned-after = exchanged-at a b (guider_after g r) (omega (arith, after)) (omega (arith, after))

      at : (i : ℕ) → Dec (i < g.count) → guide_at (guider_after (exchanged a b g) r) i ≡ guide_at (exchanged a b (guider_after g r)) i
      at i (yes h) =
          guide-after (exchanged a b g) r whole-exchanged few i h
          ∙ after-turned r i
          ∙ sym (guide-after g r w few (turn a b i) (turn_below a b g.count ha hb i h))
          ∙ sym (turned-after i)
      at i (no h) =
          guide-behind (exchanged a b g) r i (omega arith)
          ∙ turned-at i
          ∙ sym (guide-behind g r (turn a b i) (turn-behind a b g.count ha hb i (omega arith)))
          ∙ sym (turned-after i)

ok_from : (a b : ℕ) (g : Guider) → Whole g → a < g.count → b < g.count → guider_ok g ≡ true → guider_ok (exchanged a b g) ≡ true
ok_from a b g w ha hb e = let q = guider-keeps g e in guider-ok _ (rule-exchanged a b g w q.few ha hb q)

module _ (a b : ℕ) (g : Guider) (w : Whole g) (ha : a < g.count) (hb : b < g.count) where
  ok-exchanged : guider_ok (exchanged a b g) ≡ guider_ok g
  ok-exchanged = by (guider_ok g) refl (guider_ok (exchanged a b g)) refl
    where
      back : guider_ok (exchanged a b g) ≡ true → guider_ok g ≡ true
      back e =
          let n = (guider-keeps (exchanged a b g) e).few in
          let f = exchanged-back a b g (omega arith) (omega arith) in
          ap guider_ok (sym f) ∙ ok_from a b (exchanged a b g) (length_exchanged a b g ∙ w) ha hb e

      by : (t : Bool) → guider_ok g ≡ t → (u : Bool) → guider_ok (exchanged a b g) ≡ u → guider_ok (exchanged a b g) ≡ guider_ok g
      by true e u f = ok_from a b g w ha hb e ∙ sym e
      by false e true f = contradiction (sym e ∙ back f)
      by false e false f = f ∙ sym e

  outcome-exchanged : (l : Listing) → (guided_of (exchanged a b g) l).outcome ≡ (guided_of g l).outcome
  outcome-exchanged l = refused-where (exchanged a b g) l ∙ rw ok-exchanged (sym (refused-where g l))

  guider-exchanged : (l : Listing) → (guided_of (exchanged a b g) l).guider ≡ exchanged a b (guided_of g l).guider
  guider-exchanged l = by (counts l) refl (guider_ok g) refl
    where
      by : (c : Bool) → counts l ≡ c → (t : Bool) → guider_ok g ≡ t → (guided_of (exchanged a b g) l).guider ≡ exchanged a b (guided_of g l).guider
      by false c t e = uncounted (exchanged a b g) l c ∙ ap (exchanged a b) (sym (uncounted g l c))
      by true c false e = unruly (exchanged a b g) l (ok-exchanged ∙ e) ∙ ap (exchanged a b) (sym (unruly g l e))
      by true c true e =
          counted (exchanged a b g) l (ok-exchanged ∙ e) c
          ∙ after-exchanged a b g w (guider-keeps g e).few ha hb l.report
          ∙ ap (exchanged a b) (sym (counted g l e c))

  -- the same answer, and the same exchange after
  pub order : (l : Listing) → guided_of (exchanged a b g) l ≡ record { outcome = (guided_of g l).outcome; guider = exchanged a b (guided_of g l).guider }
  order l = λ i. record { outcome = outcome-exchanged l i; guider = guider-exchanged l i }

-- and through any number of frames
pub chain-order : (a b : ℕ) (g : Guider) → Whole g → a < g.count → b < g.count → (frames : ℕ → Listing) (n : ℕ)
    → guider_at (exchanged a b g) frames n ≡ exchanged a b (guider_at g frames n)
unfolding guider_at
chain-order a b g w ha hb frames zero = refl
chain-order a b g w ha hb frames (suc n) =
    let c = chain-count g frames n in
    ap (λ (x : Guider). (guided_of x (frames n)).guider) (chain-order a b g w ha hb frames n)
    ∙ guider-exchanged a b (guider_at g frames n) (chain-whole g frames w n) (omega arith) (omega arith) (frames n)
