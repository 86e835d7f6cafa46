-- The definitions that the contracts of `catalogue_cut` cite, and their laws.
pub mod Shifted
pub mod Cut
pub mod Flight
pub mod Records
pub mod Kept
pub mod Pairs
pub mod Front
pub mod marks
