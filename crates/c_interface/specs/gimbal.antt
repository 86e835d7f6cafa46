-- What the gimbal computer's calls read from lent lists and leave in lent rooms. Assumes nothing.
pub mod Rooms
pub mod Cosines
pub mod Turned
