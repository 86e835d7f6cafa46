-- Request T-14 in plain terms: which guide follows which star, and what becomes of each guide at a frame. Assumes nothing.
use Rattle.std.specs.Prelude.{Bool, ◌&&◌, ◌≡◌, ℕ, ◌+◌, ◌≤◌, ◌<◌, leb}
use Rattle.std.proofs.Math.Bool.{true, false, not}
use Rattle.std.proofs.Math.Path.{refl}
use Rattle.std.proofs.Common.{sym, ap, ◌∙◌, arith}
use Rattle.std.proofs.Math.Decide.{dec_lt}
use Rattle.std.proofs.Math.Dec.{eqb}
use borrow.Author.Tests.{leb-true, le-leb, ltb-true, lt-ltb, le-ltb, eqb-true, eq-eqb, eqb-false, not-true}
use Rattle.lists.specs.Contradiction.{contradiction}
use Rattle.lists.specs.First.{first}
use Rattle.lists.proofs.First.{first-is, first_of}
use Rattle.lists.specs.Number.{number}
use Rattle.lists.specs.TestsLaws.{and_left, and_right, and_both, some-none, none-some, not-of}
use Rattle.frame_centroid.specs.declared.Centroid.{Centroid}
use Rattle.frame_list.specs.declared.Report.{Report}
use Rattle.guider_rule.specs.declared.Guide.{Guide}
use Rattle.guider_rule.specs.declared.Guider.{Guider}
use Rattle.lists.proofs.One.{first_counted, only_one, one-counted}
use Rattle.guider_rule.specs.Guider.{guide_at, star_at, apart, in_box, live, claims, shared, inside, star_in, follows, moved, missed, guide_after}
use Rattle.guider_rule.specs.FollowLaws.{InBox, Follows, in-box, box_in}

false-unless : (b : Bool) → (b ≡ true → ⊥) → b ≡ false
false-unless true f = absurd (f refl)
false-unless false f = refl

module _ (g : Guider) (i : ℕ) (star : Centroid) where
  other : ℕ → Bool
  other j = not (eqb j i) && claims g star j

  -- no other live guide has the star in its box
  pub shared-none : ((j : ℕ) → j < g.count → (guide_at g j).misses < 5 → InBox g.half (guide_at g j) star → j ≡ i) → shared g i star ≡ false
  unfolding shared other
  shared-none f = some-none g.count other (λ j h. false-unless (other j)
      (λ t. eqb-false j i (not-true (eqb j i) (and_left _ _ t)) (mine j h (and_right (not (eqb j i)) _ t))))
    where
      mine : (j : ℕ) → j < g.count → claims g star j ≡ true → j ≡ i
      mine j h c = f j h (ltb-true _ 5 (and_left _ _ c)) (in-box g.half (guide_at g j) star (and_right (live (guide_at g j)) _ c))

  pub none-shared : shared g i star ≡ false → (j : ℕ) → j < g.count → (guide_at g j).misses < 5 → InBox g.half (guide_at g j) star → j ≡ i
  unfolding shared other
  none-shared e j h l b = by (eqb j i) refl
    where
      by : (t : Bool) → eqb j i ≡ t → j ≡ i
      by true q = eqb-true j i q
      by false q =
          contradiction
          (sym (none-some g.count other e j h)
          ∙ and_both (not (eqb j i)) (claims g star j) (ap not q) (and_both _ _ (lt-ltb _ 5 l) (box_in g.half (guide_at g j) star b)))

module _ (g : Guider) (r : Report) (i : ℕ) where
  -- the star that is taken is the only one
  star-first : {k : ℕ} → Follows g r i k → first (inside g r i) r.count ≡ k
  star-first {k} f =
      sym
      (first_of (inside g r i) r.count
      (record {
        most = omega (arith, f.listed);
        none = λ m h. false-unless (inside g r i m) (λ t. before m h (f.alone m (omega (arith, f.listed)) (in-box g.half (guide_at g i) (star_at r m) t)));
        taken = λ _. box_in g.half (guide_at g i) (star_at r k) f.within;
      }))
    where
      before : (m : ℕ) → m < k → m ≡ k → ⊥
      before m h e = omega arith

  pub star-follows : {k : ℕ} → Follows g r i k → follows g r i ≡ true
  unfolding follows
  star-follows {k} f =
      and_both _ _
      (eq-eqb _ 1 (one-counted r.count (inside g r i) k f.listed (box_in g.half (guide_at g i) (star_at r k) f.within)
      (λ m h t. f.alone m h (in-box g.half (guide_at g i) (star_at r m) t))))
      (not-of _ (ap (λ (m : ℕ). shared g i (star_at r m)) (star-first f) ∙ shared-none g i (star_at r k) f.free))

  pub follows-star : (guide_at g i).misses < 5 → follows g r i ≡ true → Follows g r i (first (inside g r i) r.count)
  unfolding follows
  follows-star h e =
      let n : number r.count (inside g r i) ≡ 1 = eqb-true _ 1 (and_left _ _ e) in
      let l = first_counted r.count (inside g r i) (omega arith) in
      let t = (first-is (inside g r i) r.count).taken l in
      record {
        living = h;
        listed = l;
        within = in-box g.half (guide_at g i) (star_in g r i) t;
        alone = λ m b q. only_one r.count (inside g r i) n m _ b l (box_in g.half (guide_at g i) (star_at r m) q) t;
        free = none-shared g i (star_in g r i) (not-true _ (and_right (eqb (number r.count (inside g r i)) 1) _ e));
      }

  -- ---- what becomes of guide i

  -- a live guide that follows a star moves there
  pub follower : {k : ℕ} → Follows g r i k → guide_after g r i ≡ moved (guide_at g i) (star_at r k)
  unfolding guide_after
  follower f = rw (lt-ltb _ 5 f.living, star-follows f) (ap (λ (m : ℕ). moved (guide_at g i) (star_at r m)) (star-first f))

  -- one that follows none keeps its position and is missed
  pub misser : (guide_at g i).misses < 5 → ((k : ℕ) → Follows g r i k → ⊥) → guide_after g r i ≡ missed (guide_at g i)
  unfolding guide_after
  misser h f = rw (lt-ltb _ 5 h, false-unless (follows g r i) (λ t. f _ (follows-star h t)))

  -- a dropped one stays as it is
  pub stayer : 5 ≤ (guide_at g i).misses → guide_after g r i ≡ guide_at g i
  unfolding guide_after
  stayer h = rw (le-ltb _ 5 h)

  -- and there is no fourth case
  pub fates : {A : Type 0}
      → ((k : ℕ) → Follows g r i k → A)
      → ((guide_at g i).misses < 5 → ((k : ℕ) → Follows g r i k → ⊥) → A)
      → (5 ≤ (guide_at g i).misses → A)
      → A
  fates {A} a b c = go (dec_lt (guide_at g i).misses 5)
    where
      by : (t : Bool) → follows g r i ≡ t → (guide_at g i).misses < 5 → A
      by true e h = a _ (follows-star h e)
      by false e h = b h (λ k f. contradiction (sym e ∙ star-follows f))

      go : Dec ((guide_at g i).misses < 5) → A
      go (yes h) = by (follows g r i) refl h
      go (no h) = c (omega arith)
