-- The definitions that the contracts of `vectors::handedness` cite, and their laws.
pub mod Handedness
pub mod Laws
