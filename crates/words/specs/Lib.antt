-- The definitions that the contracts of `bytes` cite, and their laws.
pub mod Number
pub mod NumberLaws
pub mod Bytes
pub mod BytesLaws
pub mod Front
