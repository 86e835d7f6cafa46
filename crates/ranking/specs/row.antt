-- The definitions that the contracts of `ranking::row` cite, and their laws.
pub mod Row
pub mod Places
pub mod RowPlaces
pub mod Levels
