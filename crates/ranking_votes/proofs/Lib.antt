-- The laws that the proofs of `ranking_votes` cite.
pub mod Store
pub mod Counters
