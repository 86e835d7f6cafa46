-- The guider's room in plain terms: a room keeps its length, and what is accepted is the numbers themselves: none was read as another. Assumes nothing.
use Rattle.std.specs.Prelude.{Bool, true, false, ◌≡◌, refl, List, ℕ, zero, suc, ◌+◌, ◌*◌, ◌≤◌, ◌<◌, ltb, ℤ, pos, negsuc, length, get_or}
use Rattle.std.proofs.Common.{arith, length-set, ltb-true, ltb-false, le-ltb}
use Rattle.std.specs.Int.Signed.{lt_z}
use Rattle.guider_rule.specs.declared.Guide.{Guide}
use Rattle.guider_rule.specs.declared.Sighting.{Sighting}
use Rattle.guider_rule.specs.Guider.{guide_at}
use Rattle.guider_rule.specs.Rule.{farthest, guider_ok}
use Rattle.guider_rule.specs.RuleLaws.{OnFrame}
use Rattle.guider_rule.proofs.RuleLaws.{guider-keeps}
use Rattle.c_interface.specs.guide.Rooms.{unsigned_of, number_in, largest_identity, sighting_in, guide_in, guider_in, with_guides}

pub length-guides : (guides : List Guide) (n : ℕ) (room : List ℤ) → length (with_guides guides n room) ≡ length room
unfolding with_guides
length-guides guides zero room = refl
length-guides guides (suc n) room = rw (length-set, length-set, length-set, length-set) (length-guides guides n room)

-- ---- numbers that are read as themselves

-- what is read as a number of 63 bits is that number
unsigned_back : (z : ℤ) → unsigned_of z ≤ 9223372036854775807 → pos (unsigned_of z) ≡ z
unfolding unsigned_of
unsigned_back (pos n) h = let e : lt_z (pos n) (pos 0) ≡ false = le-ltb n 0 (omega arith) in rw e
unsigned_back (negsuc n) h = absurd (omega arith)

-- identity, x and y of a star that is on the frame, from a place on
pub record Sighted (xs : List ℤ) (at : ℕ) (star : Sighting) : Type 0 where
  pub small : star.identity ≤ largest_identity
  pub identity : pos star.identity ≡ get_or xs at (pos 0)
  pub across : pos star.x ≡ get_or xs (at + 1) (pos 0)
  pub down : pos star.y ≡ get_or xs (at + 2) (pos 0)

pub sighted : (xs : List ℤ) (at : ℕ) → OnFrame (sighting_in xs at).x (sighting_in xs at).y → Sighted xs at (sighting_in xs at)
sighted xs at o = by (ltb largest_identity (number_in xs at)) refl
  where
    by : (t : Bool) → ltb largest_identity (number_in xs at) ≡ t → Sighted xs at (sighting_in xs at)
    by true e = let h : number_in xs at ≤ farthest = rw e at o.across in absurd (omega (arith, ltb-true largest_identity (number_in xs at) e))
    by false e =
        let h : number_in xs (at + 1) ≤ farthest = rw e at o.across in
        let l : number_in xs (at + 2) ≤ farthest = rw e at o.down in
        let n = ltb-false largest_identity (number_in xs at) e in
        rw e
        (record {
          small = n;
          identity = unsigned_back _ (omega arith);
          across = unsigned_back _ (omega arith);
          down = unsigned_back _ (omega arith);
        })

-- guide i of a guider in a room that keeps the rule
pub record Stands (room : List ℤ) (at : ℕ) (guide : Guide) : Type 0 where
  pub small : guide.identity ≤ largest_identity
  pub identity : pos guide.identity ≡ get_or room at (pos 0)
  pub across : pos guide.x ≡ get_or room (at + 1) (pos 0)
  pub down : pos guide.y ≡ get_or room (at + 2) (pos 0)
  pub late : pos guide.misses ≡ get_or room (at + 3) (pos 0)

stands_at : (room : List ℤ) (at : ℕ) → OnFrame (guide_in room at).x (guide_in room at).y → (guide_in room at).misses ≤ 5 → Stands room at (guide_in room at)
stands_at room at o m =
    let s = sighted room at (record { across = o.across; down = o.down }) in
    record { small = s.small; identity = s.identity; across = s.across; down = s.down; late = unsigned_back _ (omega arith) }

module _ (room : List ℤ) (ok : guider_ok (guider_in room) ≡ true) where
  pub stands-half : pos (guider_in room).half ≡ get_or room 0 (pos 0)
  stands-half = unsigned_back _ (omega (arith, (guider-keeps (guider_in room) ok).narrow))

  pub stands-count : pos (guider_in room).count ≡ get_or room 1 (pos 0)
  stands-count = unsigned_back _ (omega (arith, (guider-keeps (guider_in room) ok).few))

  pub stands : (i : ℕ) → i < (guider_in room).count → Stands room (2 + 4 * i) (guide_at (guider_in room) i)
  stands i h = go i (guider-keeps (guider_in room) ok).few h ((guider-keeps (guider_in room) ok).places i h) ((guider-keeps (guider_in room) ok).believed i h)
    where
      go : (i : ℕ) → (guider_in room).count ≤ 4 → i < (guider_in room).count → OnFrame (guide_at (guider_in room) i).x (guide_at (guider_in room) i).y
          → (guide_at (guider_in room) i).misses ≤ 5 → Stands room (2 + 4 * i) (guide_at (guider_in room) i)
      go zero f h o m = stands_at room 2 o m
      go (suc zero) f h o m = stands_at room 6 o m
      go (suc (suc zero)) f h o m = stands_at room 10 o m
      go (suc (suc (suc zero))) f h o m = stands_at room 14 o m
      go (suc (suc (suc (suc i)))) f h o m = absurd (omega arith)
