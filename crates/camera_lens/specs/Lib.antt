-- The definitions that the contracts cite, then their laws, and cases with numbers.
pub mod Lens
pub mod Stated
pub mod Range
pub mod Exact
pub mod Laws
pub mod RefusedLaws
pub mod StatedLaws
pub mod Cases
