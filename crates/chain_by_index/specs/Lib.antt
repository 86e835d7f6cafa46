-- The chain by an index: the definitions that its contract cites, and their laws.
pub mod Chain
pub mod Laws
pub mod Alike
