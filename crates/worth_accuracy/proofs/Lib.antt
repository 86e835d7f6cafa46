-- The laws of the definitions in specs/.
pub mod Burst
pub mod Chain
pub mod Every
pub mod Floats
pub mod Index
pub mod Worth
pub mod Names
pub mod Second
