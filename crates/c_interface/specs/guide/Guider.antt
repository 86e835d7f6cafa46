-- What the guider's two calls give, with the guider in a lent room. Assumes nothing.
use Rattle.std.specs.Prelude.{Bool, cond, ◌&&◌, List, ◌/◌, ◌%◌, eqb, ℤ, length}
use Rattle.refusal.specs.Numbers as number
use Rattle.refusal.specs.Table.{refusal_of}
use Rattle.guider_rule.specs.declared.Guider.{Guider}
use Rattle.guider_rule.specs.declared.Guided.{Guided}
use Rattle.guider_rule.specs.Calls.{nobody, refused_with, started_of, guided_of}
use Rattle.c_interface.specs.guide.Rooms.{size, unsigned_of, sightings_in, guider_in, with_guides, with_guider, listing_in}
use Rattle.std.specs.Prelude.{Result, Ok, Err}
use Rattle.refusal.specs.declared.Refusal.{Refusal}

-- ---- start

-- numbers that are not in threes are refused as well
unfoldable pub started_in : ℤ → List ℤ → Guided
started_in half stars = cond (eqb (length stars % 3) 0) (started_of (unsigned_of half) (sightings_in stars) (length stars / 3)) (refused_with nobody)

-- the guider of a start that is accepted stands in the room; a refused one leaves the room as it was
abbrev pub begun : Guider → List ℤ → Result Unit Refusal → List ℤ
begun g room (Ok _) = with_guider g room
begun g room (Err _) = room

abbrev pub started_room : Guided → List ℤ → List ℤ
started_room answer room = begun answer.guider room answer.outcome

-- a room of other than 18 numbers is no guider's: 22, and it stays as it was
unfoldable pub start_room : ℤ → List ℤ → List ℤ → List ℤ
start_room half stars room = cond (eqb (length room) size) (started_room (started_in half stars) room) room

unfoldable pub start_outcome : ℤ → List ℤ → List ℤ → Result Unit Refusal
start_outcome half stars room = cond (eqb (length room) size) (started_in half stars).outcome (refusal_of number.guider 0)

-- ---- a frame

unfoldable pub framed_in : List ℤ → List ℤ → Guided
framed_in room list = guided_of (guider_in room) (listing_in list)

-- the guides of a call that is accepted stand in the room; numbers behind them stay
abbrev pub gone : Guider → List ℤ → Result Unit Refusal → List ℤ
gone g room (Ok _) = with_guides g.guides g.count room
gone g room (Err _) = room

abbrev pub framed_room : Guided → List ℤ → List ℤ
framed_room answer room = gone answer.guider room answer.outcome

-- 18 numbers of a guider, and 64 of a list; others are refused with 22
abbrev pub taken : List ℤ → List ℤ → Bool
taken room list = eqb (length room) size && eqb (length list) 64

unfoldable pub frame_room : List ℤ → List ℤ → List ℤ
frame_room room list = cond (taken room list) (framed_room (framed_in room list) room) room

unfoldable pub frame_outcome : List ℤ → List ℤ → Result Unit Refusal
frame_outcome room list = cond (taken room list) (framed_in room list).outcome (refusal_of number.guider 0)
