-- The definitions that a search's contract cites. Their laws stand in proofs/.
pub mod Order
pub mod Problem
pub mod Pruning
pub mod Fit
pub mod Rival
pub mod Run
