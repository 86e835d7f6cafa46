-- The laws of the definitions in specs/.
pub mod Laws
pub mod LengthLaws
pub mod Lens
