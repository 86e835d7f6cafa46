-- The numbers that the whole chain hands over. Assumes nothing.
pub mod Chain
pub mod Laws
pub mod ChainLaws
