-- The numbers that the camera's calls hand over. Assumes nothing.
pub mod Lens
pub mod Direction
