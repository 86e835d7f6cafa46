-- The laws of the definitions in specs/.
pub mod Exact
pub mod Laws
pub mod StatedLaws
