-- The laws of the definitions in specs/.
pub mod CompareSteps
pub mod Equal
pub mod KindLaws
pub mod Laws
pub mod StepLaws
pub mod WalkLaws
pub mod Written
pub mod Merge
