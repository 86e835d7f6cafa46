-- The lemmas that several proofs share.
pub mod Words
pub mod Rows
mod Ends
