-- The lemmas that several proofs share.
pub mod Once
pub mod Seen
pub mod Rejected
pub mod Padded
pub mod Answers
pub mod Promise
