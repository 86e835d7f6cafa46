-- The laws of the definitions in specs/.
pub mod CutSteps
pub mod Front
pub mod Kept
pub mod Laws
pub mod Records
pub mod Shifted
