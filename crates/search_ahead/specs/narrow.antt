-- The definitions that the contracts of `search_ahead::narrow` cite, and their laws.
pub mod Narrow
