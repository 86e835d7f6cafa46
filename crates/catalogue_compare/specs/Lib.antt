-- The definitions that the contracts of `catalogue_compare` cite, and their laws.
pub mod Step
pub mod Taken
pub mod Cut
pub mod StepLaws
pub mod Walk
pub mod Written
pub mod Compare
pub mod Changes
pub mod DifferLaws
pub mod Places
pub mod Kinds
pub mod Encoded
pub mod Read
pub mod Fields
pub mod Laws
