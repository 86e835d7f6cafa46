-- An accepted frame leaves no more than four guides.
use Rattle.std.proofs.Common.{◌≡◌, ◌≤◌, List, ℤ, true}
use Rattle.guider_rule.specs.declared.Guided.{Guided}
use Rattle.guider_rule.specs.AfterLaws.{is_accepted}
use Rattle.guider_rule.proofs.AfterLaws.{accepted-few}
use Rattle.c_interface.specs.guide.Rooms.{guider_in, listing_in}
use Rattle.c_interface.specs.guide.Guider.{framed_in}
use Rattle.c_interface.proofs.guide.put_frame.Goals as goal

few : (room list : List ℤ) {g : Guided} → g ≡ framed_in room list → is_accepted g.outcome ≡ true → g.guider.count ≤ 4
unfolding framed_in
few room list e = rw e (accepted-few (guider_in room) (listing_in list))

pub put_framed-requires : goal.put_framed-requires
put_framed-requires c = few _ _ c.frame_in-framed.ensures
