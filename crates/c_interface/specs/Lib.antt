-- The definitions that the contracts of `c_interface` cite, and their laws.
pub mod frame
pub mod camera
pub mod identify
pub mod rival
pub mod track
pub mod by_index
pub mod gimbal
pub mod guide
