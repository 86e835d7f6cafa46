-- The numbers that the frame's calls hand over. Assumes nothing.
pub mod Frame
pub mod Reason
