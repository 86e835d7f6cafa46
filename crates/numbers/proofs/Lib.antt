-- The laws that the proofs of `numbers` cite.
pub mod Heron
pub mod Word
pub mod Solver
pub mod TwosComplement
