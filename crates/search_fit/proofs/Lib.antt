-- The laws that proofs above cite.
pub mod Rules
pub mod Turns
mod Beside
mod SpanLaws
