-- The C interface of the guider: its room, a frame's list, and what the two calls give.
pub mod Rooms
pub mod RoomLaws
pub mod Guider
pub mod ReadLaws
