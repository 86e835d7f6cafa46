-- What the answers say.
pub mod Answers
pub mod Promise
