-- The laws of the definitions, for the proofs of the crates above.
pub mod Tests
pub mod Search
pub mod Unique
pub mod Pruning
pub mod Fit
pub mod Rival
pub mod Pigeon
pub mod Run
