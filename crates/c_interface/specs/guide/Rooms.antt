-- The guider as numbers in a room, and a frame's list as the numbers that its own call hands over. Assumes nothing.
use Rattle.std.specs.Prelude.{cond, List, [], ◌∷◌, ℕ, zero, suc, ◌+◌, ◌*◌, eqb, ltb, ℤ, pos, nat_abs, get_or, set}
use Rattle.std.specs.Int.Signed.{lt_z}
use Rattle.refusal.specs.Table.{refusal_of}
use Rattle.refusal.specs.Numbers as refusals
use Rattle.frame_centroid.specs.declared.Centroid.{Centroid}
use Rattle.frame_list.specs.declared.Report.{Report}
use Rattle.frame_list.specs.declared.Listing.{Listing}
use Rattle.numbers.specs.TwosComplement.{signed_of}
use Rattle.guider_rule.specs.declared.Guide.{Guide}
use Rattle.guider_rule.specs.declared.Sighting.{Sighting}
use Rattle.guider_rule.specs.declared.Guider.{Guider}
use Rattle.guider_rule.specs.Guider.{no_guide}
use Rattle.std.specs.Prelude.{Result, Ok}
use Rattle.refusal.specs.declared.Refusal.{Refusal}

-- how many numbers a guider has
abbrev pub size : ℕ
size = 18

-- a negative number is read as the largest, which no rule takes
unfoldable pub unsigned_of : ℤ → ℕ
unsigned_of z = cond (lt_z z (pos 0)) 18446744073709551615 (nat_abs z)

abbrev pub number_in : List ℤ → ℕ → ℕ
number_in xs at = unsigned_of (get_or xs at (pos 0))

-- ---- guides: identity, x and y from a place on

-- the largest identity: four bytes of a catalogue's record
abbrev pub largest_identity : ℕ
largest_identity = 4294967295

-- a number that is no identity makes a star on no frame, which the guider refuses
abbrev pub sighting_in : List ℤ → ℕ → Sighting
sighting_in xs at =
    cond (ltb largest_identity (number_in xs at))
    (record { identity = 0; x = number_in xs at; y = number_in xs at })
    (record { identity = number_in xs at; x = number_in xs (at + 1); y = number_in xs (at + 2) })

-- what a start is handed
abbrev pub sightings_in : List ℤ → List Sighting
sightings_in xs = sighting_in xs 0 ∷ sighting_in xs 3 ∷ sighting_in xs 6 ∷ sighting_in xs 9 ∷ []

-- in the room the misses stand behind them
abbrev pub guide_in : List ℤ → ℕ → Guide
guide_in room at = record { identity = (sighting_in room at).identity; x = (sighting_in room at).x; y = (sighting_in room at).y; misses = number_in room (at + 3) }

-- half-width, count, and four numbers a guide
abbrev pub guider_in : List ℤ → Guider
guider_in room =
    record {
      half = number_in room 0;
      count = number_in room 1;
      guides = guide_in room 2 ∷ guide_in room 6 ∷ guide_in room 10 ∷ guide_in room 14 ∷ [];
    }

-- ---- the room after a call

abbrev pub with_guide : List ℤ → ℕ → Guide → List ℤ
with_guide room at guide =
    set (set (set (set room at (signed_of guide.identity)) (at + 1) (signed_of guide.x)) (at + 2) (signed_of guide.y)) (at + 3) (signed_of guide.misses)

-- the first n guides; the rest stays
unfoldable pub with_guides : List Guide → ℕ → List ℤ → List ℤ
with_guides guides zero room = room
with_guides guides (suc n) room = with_guide (with_guides guides n room) (2 + 4 * n) (get_or guides n no_guide)

-- the whole guider
abbrev pub with_guider : Guider → List ℤ → List ℤ
with_guider g room = with_guides g.guides 4 (set (set room 0 (signed_of g.half)) 1 (signed_of g.count))

-- ---- a frame's list: its refusal number at 0, how many stars at 2, and from 6 on x, y and brightness of each

abbrev pub star_in : List ℤ → ℕ → Centroid
star_in list at = record { x = number_in list at; y = number_in list (at + 1); brightness = number_in list (at + 2) }

-- the counts of pixels have no say
abbrev pub report_in : List ℤ → Report
report_in list =
    record {
      stars = star_in list 6 ∷ star_in list 9 ∷ star_in list 12 ∷ star_in list 15 ∷ star_in list 18 ∷ star_in list 21 ∷ star_in list 24 ∷ star_in list 27 ∷ [];
      count = number_in list 2;
      measured = 0;
      edge = 0;
      lone = 0;
    }

-- and neither has the number of a frame's refusal
abbrev pub outcome_in : ℕ → Result Unit Refusal
outcome_in n = cond (eqb n 0) (Ok tt) (refusal_of refusals.size 0)

abbrev pub listing_in : List ℤ → Listing
listing_in list = record { outcome = outcome_in (number_in list 0); report = report_in list }
