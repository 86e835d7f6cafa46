-- The laws of the definitions in specs/.
pub mod Apart
pub mod Bright
pub mod Laws
