-- Reading back what was written gives the guider, so what the rule says of a guider it says of the numbers that a caller keeps. Assumes nothing.
use Rattle.std.specs.Prelude.{Bool, cond, ◌≡◌, List, [], ◌∷◌, ◌⊎◌, ltb, ℤ, pos, length, get_or, set}
use Rattle.std.proofs.Math.Bool.{true, false}
use Rattle.std.proofs.Math.Path.{refl, ap}
use Rattle.std.proofs.Common.{sym, subst, ◌∙◌, inl, inr, ⊎_elim, le-ltb, ltb-false, eqb-true, length-set, ext_get_or, get_or-set_same, get_or-set_other}
use Prim.Native.Nat.{ℕ, zero, suc, ◌+◌, ◌*◌, ◌/◌, ◌%◌, ◌≤◌, ◌<◌}
use Rattle.std.proofs.Math.Decide.{dec_lt, ℕ_discrete}
use native.Mathlib.Omega.{arith}
use Rattle.std.proofs.Math.Dec.{eqb}
use Rattle.std.proofs.Math.ListN.{get_or-eq_default}
use Rattle.lists.specs.Contradiction.{contradiction}
use Rattle.refusal.specs.Numbers as number
use Rattle.refusal.specs.Table.{refusal_of}
use Rattle.frame_list.specs.declared.Listing.{Listing}
use Rattle.numbers.specs.TwosComplement.{signed_of}
use Rattle.guider_rule.specs.declared.Guide.{Guide}
use Rattle.guider_rule.specs.declared.Guider.{Guider}
use Rattle.guider_rule.specs.declared.Guided.{Guided}
use Rattle.guider_rule.specs.Guider.{no_guide, guide_at, guider_after}
use Rattle.guider_rule.specs.Rule.{guider_ok, list_ok}
use Rattle.guider_rule.specs.RuleLaws.{GuiderRule}
use Rattle.guider_rule.proofs.RuleLaws.{guider-keeps}
use Rattle.guider_rule.specs.Calls.{no_sighting, fresh_guide, fresh_of, started_of, refused_with, guided_of}
use Rattle.guider_rule.proofs.FollowLaws.{follower, misser, stayer, fates}
use Rattle.guider_rule.specs.AfterLaws.{Whole}
use Rattle.guider_rule.proofs.AfterLaws.{guide-after, guide-behind, handed, rule-kept, whole-kept, count_kept}
use Rattle.guider_rule.specs.ChainLaws.{guider_at}
use Rattle.c_interface.specs.guide.Rooms.{unsigned_of, number_in, largest_identity, sighting_in, sightings_in, guide_in, guider_in, with_guide, with_guides, with_guider, listing_in}
use Rattle.c_interface.specs.guide.RoomLaws.{length-guides, stands}
use Rattle.c_interface.specs.guide.Guider.{started_in, start_room, start_outcome, framed_in, gone, framed_room, taken, frame_room}
use Rattle.c_interface.specs.guide.ReadLaws.{signed_back, Small, guide_by, room_at}
use Rattle.std.specs.Prelude.{Result, Ok, Err}
use Rattle.refusal.specs.declared.Refusal.{Refusal}

guide-by : (room : List ℤ) (at : ℕ) → guide_in room at ≡ guide_by (get_or room at (pos 0)) (get_or room (at + 1) (pos 0)) (get_or room (at + 2) (pos 0))
    (get_or room (at + 3) (pos 0))
guide-by room at = by (ltb largest_identity (number_in room at)) refl
  where
    by : (t : Bool) → ltb largest_identity (number_in room at) ≡ t
        → guide_in room at ≡ guide_by (get_or room at (pos 0)) (get_or room (at + 1) (pos 0)) (get_or room (at + 2) (pos 0)) (get_or room (at + 3) (pos 0))
    by true e = rw e refl
    by false e = rw e refl

small-back : (guide : Guide) → Small guide → guide_by (signed_of guide.identity) (signed_of guide.x) (signed_of guide.y) (signed_of guide.misses) ≡ guide
small-back guide s =
    let a = signed_back guide.identity (omega (arith, s.identity)) in
    let b = signed_back guide.x s.across in
    let c = signed_back guide.y s.down in
    let d = signed_back guide.misses s.late in
    let e : ltb largest_identity guide.identity ≡ false = le-ltb largest_identity guide.identity s.identity in
    rw (a, b, c, d, e) refl

-- a place that is none of the four from another on
elsewhere : (k at m : ℕ) → m < 4 → (k < at) ⊎ (at + 4 ≤ k) → k ≡ at + m → ⊥
elsewhere k at m l (inl a) q = omega arith
elsewhere k at m l (inr b) q = omega arith

beside : (b at m : ℕ) → m < 4 → (b + 4 ≤ at) ⊎ (at + 4 ≤ b) → (b + m < at) ⊎ (at + 4 ≤ b + m)
beside b at m l (inl h) = inl (omega arith)
beside b at m l (inr h) = inr (omega arith)

module _ (room : List ℤ) (at : ℕ) (guide : Guide) where
  abbrev first : List ℤ
  first = set room at (signed_of guide.identity)

  abbrev second : List ℤ
  second = set first (at + 1) (signed_of guide.x)

  abbrev third : List ℤ
  third = set second (at + 2) (signed_of guide.y)

  -- what stands elsewhere stays
  put_other : (k : ℕ) → (k < at) ⊎ (at + 4 ≤ k) → get_or (with_guide room at guide) k (pos 0) ≡ get_or room k (pos 0)
  put_other k h =
      get_or-set_other third (at + 3) k (signed_of guide.misses) (pos 0) (elsewhere k at 3 (omega arith) h)
      ∙ get_or-set_other second (at + 2) k (signed_of guide.y) (pos 0) (elsewhere k at 2 (omega arith) h)
      ∙ get_or-set_other first (at + 1) k (signed_of guide.x) (pos 0) (elsewhere k at 1 (omega arith) h)
      ∙ get_or-set_other room at k (signed_of guide.identity) (pos 0) (λ q. elsewhere k at 0 (omega arith) h (omega arith))

  guide-stays : (b : ℕ) → (b + 4 ≤ at) ⊎ (at + 4 ≤ b) → guide_in (with_guide room at guide) b ≡ guide_in room b
  guide-stays b h =
      guide-by (with_guide room at guide) b
      ∙ (λ j. guide_by (put_other b (zeroth h) j) (put_other (b + 1) (beside b at 1 (omega arith) h) j) (put_other (b + 2) (beside b at 2 (omega arith) h) j)
      (put_other (b + 3) (beside b at 3 (omega arith) h) j))
      ∙ sym (guide-by room b)
    where
      zeroth : (b + 4 ≤ at) ⊎ (at + 4 ≤ b) → (b < at) ⊎ (at + 4 ≤ b)
      zeroth (inl l) = inl (omega arith)
      zeroth (inr l) = inr l

  -- the four that are put are read back
  guide-back : at + 4 ≤ length room → Small guide → guide_in (with_guide room at guide) at ≡ guide
  guide-back fits s =
      let l1 = length-set room at (signed_of guide.identity) in
      let l2 = length-set first (at + 1) (signed_of guide.x) in
      let l3 = length-set second (at + 2) (signed_of guide.y) in
      let a =
      get_or-set_other third (at + 3) at (signed_of guide.misses) (pos 0) (λ q. omega arith)
      ∙ get_or-set_other second (at + 2) at (signed_of guide.y) (pos 0) (λ q. omega arith)
      ∙ get_or-set_other first (at + 1) at (signed_of guide.x) (pos 0) (λ q. omega arith)
      ∙ get_or-set_same room at (signed_of guide.identity) (pos 0) (omega arith) in
      let b =
      get_or-set_other third (at + 3) (at + 1) (signed_of guide.misses) (pos 0) (λ q. omega arith)
      ∙ get_or-set_other second (at + 2) (at + 1) (signed_of guide.y) (pos 0) (λ q. omega arith)
      ∙ get_or-set_same first (at + 1) (signed_of guide.x) (pos 0) (omega (arith, l1)) in
      let c =
      get_or-set_other third (at + 3) (at + 2) (signed_of guide.misses) (pos 0) (λ q. omega arith)
      ∙ get_or-set_same second (at + 2) (signed_of guide.y) (pos 0) (omega (arith, l1, l2)) in
      let d = get_or-set_same third (at + 3) (signed_of guide.misses) (pos 0) (omega (arith, l1, l2, l3)) in
      guide-by (with_guide room at guide) at ∙ (λ j. guide_by (a j) (b j) (c j) (d j)) ∙ small-back guide s

module _ (guides : List Guide) (room : List ℤ) where
  head-stays : (n k : ℕ) → k < 2 → get_or (with_guides guides n room) k (pos 0) ≡ get_or room k (pos 0)
  unfolding with_guides
  head-stays zero k h = refl
  head-stays (suc n) k h = put_other (with_guides guides n room) (2 + 4 * n) (get_or guides n no_guide) k (inl (omega arith)) ∙ head-stays n k h

  guides-behind : (n i : ℕ) → n ≤ i → guide_in (with_guides guides n room) (2 + 4 * i) ≡ guide_in room (2 + 4 * i)
  unfolding with_guides
  guides-behind zero i h = refl
  guides-behind (suc n) i h =
      guide-stays (with_guides guides n room) (2 + 4 * n) (get_or guides n no_guide) (2 + 4 * i) (inr (omega arith)) ∙ guides-behind n i (omega arith)

  guides-back : 18 ≤ length room → (n i : ℕ) → n ≤ 4 → i < n → Small (get_or guides i no_guide)
      → guide_in (with_guides guides n room) (2 + 4 * i) ≡ get_or guides i no_guide
  unfolding with_guides
  guides-back fits zero i m l s = absurd (omega arith)
  guides-back fits (suc n) i m l s = by (ℕ_discrete i n) (λ b. guides-back fits n i (omega arith) b s)
    where
      below : (i ≡ n → ⊥) → i < n
      below d = omega arith

      by : Dec (i ≡ n) → (i < n → guide_in (with_guides guides n room) (2 + 4 * i) ≡ get_or guides i no_guide)
          → guide_in (with_guides guides (suc n) room) (2 + 4 * i) ≡ get_or guides i no_guide
      by (yes q) f =
          rw q
          (guide-back (with_guides guides n room) (2 + 4 * n) (get_or guides n no_guide) (omega (arith, length-guides guides n room))
          (subst (λ (k : ℕ). Small (get_or guides k no_guide)) q s))
      by (no d) f =
          guide-stays (with_guides guides n room) (2 + 4 * n) (get_or guides n no_guide) (2 + 4 * i) (inl (omega (arith, below d))) ∙ f (below d)

four : (xs : List Guide) → length xs ≡ 4 → get_or xs 0 no_guide ∷ get_or xs 1 no_guide ∷ get_or xs 2 no_guide ∷ get_or xs 3 no_guide ∷ [] ≡ xs
four xs e = ext_get_or no_guide (get_or xs 0 no_guide ∷ get_or xs 1 no_guide ∷ get_or xs 2 no_guide ∷ get_or xs 3 no_guide ∷ []) xs (sym e) at
  where
    at : (i : ℕ) → i < 4 → get_or (get_or xs 0 no_guide ∷ get_or xs 1 no_guide ∷ get_or xs 2 no_guide ∷ get_or xs 3 no_guide ∷ []) i no_guide ≡ get_or xs i no_guide
    at zero l = refl
    at (suc zero) l = refl
    at (suc (suc zero)) l = refl
    at (suc (suc (suc zero))) l = refl
    at (suc (suc (suc (suc i)))) l = absurd (omega arith)

-- a room that reads as the guider, number by number
guider-by : (g : Guider) (room : List ℤ) → length g.guides ≡ 4 → number_in room 0 ≡ g.half → number_in room 1 ≡ g.count
    → ((i : ℕ) → i < 4 → guide_in room (2 + 4 * i) ≡ guide_at g i) → guider_in room ≡ g
guider-by g room w half count at =
    (λ j. record { half = half j; count = count j; guides = at 0 (omega arith) j ∷ at 1 (omega arith) j ∷ at 2 (omega arith) j ∷ at 3 (omega arith) j ∷ [] })
    ∙ ap (λ (xs : List Guide). record { half = g.half; count = g.count; guides = xs }) (four g.guides w)

-- a whole guider is read back as it was written
pub guider-back : (g : Guider) (room : List ℤ) → 18 ≤ length room → length g.guides ≡ 4 → g.half ≤ 9223372036854775807 → g.count ≤ 9223372036854775807
    → ((i : ℕ) → i < 4 → Small (guide_at g i)) → guider_in (with_guider g room) ≡ g
guider-back g room fits w half count small =
    let zeroth = set room 0 (signed_of g.half) in
    let headed = set zeroth 1 (signed_of g.count) in
    let l0 = length-set room 0 (signed_of g.half) in
    let l1 = length-set zeroth 1 (signed_of g.count) in
    let h = head-stays g.guides headed 4 0 (omega arith) ∙ get_or-set_other zeroth 1 0 (signed_of g.count) (pos 0) (λ q. omega arith)
    ∙ get_or-set_same room 0 (signed_of g.half) (pos 0) (omega arith) in
    let c = head-stays g.guides headed 4 1 (omega arith) ∙ get_or-set_same zeroth 1 (signed_of g.count) (pos 0) (omega (arith, l0)) in
    guider-by g (with_guider g room) w (ap unsigned_of h ∙ signed_back g.half half) (ap unsigned_of c ∙ signed_back g.count count)
    (λ i l. guides-back g.guides headed (omega (arith, l0, l1)) 4 i (omega arith) l (small i l))

-- a number that is read as an identity is one
sighting-small : (xs : List ℤ) (at : ℕ) → (sighting_in xs at).identity ≤ largest_identity
sighting-small xs at = by (ltb largest_identity (number_in xs at)) refl
  where
    by : (t : Bool) → ltb largest_identity (number_in xs at) ≡ t → (sighting_in xs at).identity ≤ largest_identity
    by true e = rw e (omega arith)
    by false e = rw e (ltb-false largest_identity (number_in xs at) e)

nothing-there : (xs : List ℤ) (at : ℕ) → length xs ≤ at → number_in xs at ≡ 0
nothing-there xs at h = ap unsigned_of (get_or-eq_default xs (pos 0) h) ∙ signed_back 0 (omega arith)

-- behind the numbers there is no star
no-sighting : (xs : List ℤ) (at : ℕ) → length xs ≤ at → sighting_in xs at ≡ no_sighting
no-sighting xs at h = rw (nothing-there xs at h, nothing-there xs (at + 1) (omega arith), nothing-there xs (at + 2) (omega arith)) refl

module _ (half : ℤ) (stars room : List ℤ) (fits : length room ≡ 18) where
  abbrev fresh : Guider
  fresh = fresh_of (unsigned_of half) (sightings_in stars) (length stars / 3)

  fresh-small : guider_ok fresh ≡ true → length stars % 3 ≡ 0 → (i : ℕ) → i < 4 → Small (guide_at fresh i)
  fresh-small ok threes i h = by i h (dec_lt i (length stars / 3))
    where
      keeps : GuiderRule fresh
      keeps = guider-keeps fresh ok

      small : (at : ℕ) → (sighting_in stars at).x ≤ 9223372036854775807 → (sighting_in stars at).y ≤ 9223372036854775807 → Small (fresh_guide (sighting_in stars at))
      small at a b = record { identity = sighting-small stars at; across = a; down = b; late = omega arith }

      on : (i : ℕ) → i < length stars / 3 → ((guide_at fresh i).x ≤ 9223372036854775807) × ((guide_at fresh i).y ≤ 9223372036854775807)
      on i l = let o = keeps.places i l in (omega (arith, o.across), omega (arith, o.down))

      off : (at : ℕ) → length stars ≤ at → Small (fresh_guide (sighting_in stars at))
      off at l = rw (no-sighting stars at l) (record { identity = omega arith; across = omega arith; down = omega arith; late = omega arith })

      by : (i : ℕ) → i < 4 → Dec (i < length stars / 3) → Small (guide_at fresh i)
      by zero h (yes l) = small 0 (on 0 l).0 (on 0 l).1
      by (suc zero) h (yes l) = small 3 (on 1 l).0 (on 1 l).1
      by (suc (suc zero)) h (yes l) = small 6 (on 2 l).0 (on 2 l).1
      by (suc (suc (suc zero))) h (yes l) = small 9 (on 3 l).0 (on 3 l).1
      by zero h (no l) = off 0 (omega arith)
      by (suc zero) h (no l) = off 3 (omega arith)
      by (suc (suc zero)) h (no l) = off 6 (omega arith)
      by (suc (suc (suc zero))) h (no l) = off 9 (omega arith)
      by (suc (suc (suc (suc i)))) h d = absurd (omega arith)

  -- what an accepted start leaves in the room is read as the guider that the rule gives
  pub start-read : start_outcome half stars room ≡ Ok tt → guider_in (start_room half stars room) ≡ (started_in half stars).guider
  unfolding start_outcome start_room started_in started_of
  start-read e = by (eqb (length stars % 3) 0) refl (guider_ok fresh) refl e
    where
      by : (t : Bool) → eqb (length stars % 3) 0 ≡ t → (u : Bool) → guider_ok fresh ≡ u → start_outcome half stars room ≡ Ok tt
          → guider_in (start_room half stars room) ≡ (started_in half stars).guider
      by false a u b k = let z : refusal_of number.guider 0 ≡ (Ok tt) = rw (fits, a) at k in contradiction (cc)
      by true a false b k = let z : refusal_of number.guider 0 ≡ (Ok tt) = rw (fits, a, b) at k in contradiction (cc)
      by true a true b k =
          rw (fits, a, b)
          (guider-back fresh room (omega arith) refl (omega (arith, (guider-keeps fresh b).narrow)) (omega (arith, (guider-keeps fresh b).few))
          (fresh-small b (eqb-true (length stars % 3) 0 a)))

-- a call of the guider is accepted, and its guider kept the rule; or it is refused, and hands back the guider
settled : (g : Guider) (l : Listing) → (((guided_of g l).outcome ≡ Ok tt) × (guider_ok g ≡ true)) ⊎ (guided_of g l ≡ refused_with g)
unfolding guided_of
settled g l = by (guider_ok g) refl l.outcome refl (list_ok l.report) refl
  where
    by : (t : Bool) → guider_ok g ≡ t → (o : Result Unit Refusal) → l.outcome ≡ o → (u : Bool) → list_ok l.report ≡ u
        → (((guided_of g l).outcome ≡ Ok tt) × (guider_ok g ≡ true)) ⊎ (guided_of g l ≡ refused_with g)
    by false e o f u q = inr (rw e refl)
    by true e (Err x) f u q = inl (rw (e, f) refl, e)
    by true e (Ok _) f true q = inl (rw (e, f, q) refl, e)
    by true e (Ok _) f false q = inr (rw (e, f, q) refl)

-- every call leaves the half-width, the identities, and the guides behind the count
module _ (g : Guider) (l : Listing) where
  half-kept : (guided_of g l).guider.half ≡ g.half
  unfolding guider_after
  half-kept = handed g l (λ x. x.half ≡ g.half) refl (λ t q. refl)

  identity-kept : Whole g → (i : ℕ) → i < g.count → (guide_at (guided_of g l).guider i).identity ≡ (guide_at g i).identity
  identity-kept w i h =
      handed g l (λ x. (guide_at x i).identity ≡ (guide_at g i).identity) refl
      (λ t q. ap (λ (x : Guide). x.identity) (guide-after g l.report w (guider-keeps g t).few i h)
      ∙ fates g l.report i (λ k f. rw (follower g l.report i f)) (λ b f. rw (misser g l.report i b f)) (λ b. rw (stayer g l.report i b)))

  behind-kept : (i : ℕ) → g.count ≤ i → guide_at (guided_of g l).guider i ≡ guide_at g i
  behind-kept i h = handed g l (λ x. guide_at x i ≡ guide_at g i) refl (λ t q. guide-behind g l.report i h)

module _ (room : List ℤ) (l : Listing) (fits : length room ≡ 18) where
  abbrev before : Guider
  before = guider_in room

  abbrev after : Guider
  after = (guided_of before l).guider

  module _ (ok : guider_ok before ≡ true) where
    kept : GuiderRule after
    kept = guider-keeps after (rule-kept before l refl ok)

    small : (i : ℕ) → i < before.count → Small (guide_at after i)
    small i h =
        let n = count_kept before l in
        let o = kept.places i (omega arith) in
        record {
          identity = omega (arith, identity-kept before l refl i h, (stands room ok i h).small);
          across = omega (arith, o.across);
          down = omega (arith, o.down);
          late = omega (arith, kept.believed i (omega arith));
        }

    at_place : (i : ℕ) → i < 4 → guide_in room (2 + 4 * i) ≡ guide_at before i
    at_place zero h = refl
    at_place (suc zero) h = refl
    at_place (suc (suc zero)) h = refl
    at_place (suc (suc (suc zero))) h = refl
    at_place (suc (suc (suc (suc i)))) h = absurd (omega arith)

    written_back : guider_in (with_guides after.guides after.count room) ≡ after
    written_back =
        guider-by after (with_guides after.guides after.count room) (whole-kept before l refl)
        (ap unsigned_of (head-stays after.guides room after.count 0 (omega arith)) ∙ sym (half-kept before l))
        (ap unsigned_of (head-stays after.guides room after.count 1 (omega arith)) ∙ sym (count_kept before l))
        (λ i h. by i h (dec_lt i before.count))
      where
        by : (i : ℕ) → i < 4 → Dec (i < before.count) → guide_in (with_guides after.guides after.count room) (2 + 4 * i) ≡ guide_at after i
        by i h (yes b) = guides-back after.guides room (omega arith) after.count i kept.few (omega (arith, count_kept before l)) (small i b)
        by i h (no b) =
            guides-behind after.guides room after.count i (omega (arith, count_kept before l)) ∙ at_place i h ∙ sym (behind-kept before l i (omega arith))

  -- what a frame leaves in the room is read as the guider that the rule gives
  room_after : guider_in (framed_room (guided_of before l) room) ≡ after
  room_after = ⊎_elim
      (λ (a : ((guided_of before l).outcome ≡ Ok tt) × (guider_ok before ≡ true)). ap (λ (o : Result Unit Refusal). guider_in (gone after room o)) a.0
      ∙ written_back a.1)
      (λ (r : guided_of before l ≡ refused_with before). ap (λ (x : Guided). guider_in (framed_room x room)) r ∙ sym (ap (λ (x : Guided). x.guider) r))
      (settled before l)

pub frame-read : (room list : List ℤ) → length room ≡ 18 → length list ≡ 64 → guider_in (frame_room room list) ≡ (guided_of (guider_in room) (listing_in list)).guider
unfolding frame_room framed_in
frame-read room list e f = rw (e, f) (room_after room (listing_in list) e)

-- a room keeps its length
pub frame-length : (room list : List ℤ) → length (frame_room room list) ≡ length room
unfolding frame_room framed_in
frame-length room list = by (taken room list) (framed_in room list).outcome
  where
    by : (t : Bool) (o : Result Unit Refusal) → length (cond t (gone (guided_of (guider_in room) (listing_in list)).guider room o) room) ≡ length room
    by false o = refl
    by true (Err q) = refl
    by true (Ok _) = length-guides _ _ room

module _ (room : List ℤ) (lists : ℕ → List ℤ) (fits : length room ≡ 18) (full : (k : ℕ) → length (lists k) ≡ 64) where
  room-length : (n : ℕ) → length (room_at room lists n) ≡ 18
  unfolding room_at
  room-length zero = fits
  room-length (suc n) = frame-length (room_at room lists n) (lists n) ∙ room-length n

  -- so every law of a chain of frames, on misses, on the order and on dropping, is one of the numbers that the caller keeps
  pub rooms-read : (n : ℕ) → guider_in (room_at room lists n) ≡ guider_at (guider_in room) (λ k. listing_in (lists k)) n
  unfolding room_at guider_at
  rooms-read zero = refl
  rooms-read (suc n) = frame-read (room_at room lists n) (lists n) (room-length n) (full n)
      ∙ ap (λ (g : Guider). (guided_of g (listing_in (lists n))).guider) (rooms-read n)
