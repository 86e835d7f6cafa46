-- Reading back what was written gives the guider, so what the rule says of a guider it says of the numbers that a caller keeps. Assumes nothing.
use Rattle.std.specs.Prelude.{cond, ◌≡◌, List, ltb, ℤ, pos}
use Rattle.std.proofs.Math.Bool.{false}
use Rattle.std.proofs.Common.{lt-ltb, le-ltb}
use Prim.Native.Nat.{ℕ, zero, suc, ◌≤◌, ◌<◌}
use native.Mathlib.Omega.{arith}
use Rattle.std.specs.Int.Signed.{lt_z}
use Rattle.numbers.specs.TwosComplement.{signed_of}
use Rattle.guider_rule.specs.declared.Guide.{Guide}
use Rattle.c_interface.specs.guide.Rooms.{unsigned_of, largest_identity}
use Rattle.c_interface.specs.guide.Guider.{frame_room}

-- a number of 63 bits is read as itself
pub signed_back : (n : ℕ) → n ≤ 9223372036854775807 → unsigned_of (signed_of n) ≡ n
unfolding unsigned_of
signed_back n h =
    let l : n < 9223372036854775808 = omega arith in
    let e : lt_z (pos n) (pos 0) ≡ false = le-ltb n 0 (omega arith) in
    rw (lt-ltb n 9223372036854775808 l, e)

-- a guide whose numbers are read as themselves
pub record Small (guide : Guide) : Type 0 where
  pub identity : guide.identity ≤ largest_identity
  pub across : guide.x ≤ 9223372036854775807
  pub down : guide.y ≤ 9223372036854775807
  pub late : guide.misses ≤ 9223372036854775807

-- ---- one guide

-- the guide of four numbers
abbrev pub guide_by : ℤ → ℤ → ℤ → ℤ → Guide
guide_by a b c d =
    record {
      identity = cond (ltb largest_identity (unsigned_of a)) 0 (unsigned_of a);
      x = cond (ltb largest_identity (unsigned_of a)) (unsigned_of a) (unsigned_of b);
      y = cond (ltb largest_identity (unsigned_of a)) (unsigned_of a) (unsigned_of c);
      misses = unsigned_of d;
    }

-- ---- the guides of a room

-- ---- a start

-- ---- a frame

-- ---- any number of frames

-- the room after n frames, whose lists' numbers are lent one after the other
unfoldable pub room_at : List ℤ → (ℕ → List ℤ) → ℕ → List ℤ
room_at room lists zero = room
room_at room lists (suc n) = frame_room (room_at room lists n) (lists n)
