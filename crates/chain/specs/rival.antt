-- The definitions that the contracts cite, and their laws.
pub mod Chain
pub mod Laws
