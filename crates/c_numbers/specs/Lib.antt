-- What the C interface hands over: the room after a call, and how numbers, vectors, matrices and stars stand among the 64. Assumes nothing.
pub mod Room
pub mod Numbers
pub mod Matrix
pub mod Stars
pub mod Places
pub mod PlaceLaws
pub mod Handed
pub mod Copied
