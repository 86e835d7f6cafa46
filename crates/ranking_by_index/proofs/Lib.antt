-- The laws of the definitions in specs/.
pub mod Alike
pub mod Laws
pub mod StepLaws
