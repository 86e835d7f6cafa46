-- The definitions that the contracts cite, and what they are for.
pub mod Once
pub mod First
pub mod Refusals
pub mod Identified
pub mod Call
pub mod Answered
pub mod Alike
