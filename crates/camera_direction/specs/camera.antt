-- The definitions that the contract of `camera_direction::camera` cites, and their laws.
pub mod Camera
pub mod Laws
