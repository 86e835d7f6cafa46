-- The laws of the definitions in specs/.
pub mod Accuracy
pub mod Bench
pub mod Bounds
pub mod Carry
pub mod Frame
pub mod Known
pub mod Power
pub mod Laws
pub mod Rotation
pub mod Upright
