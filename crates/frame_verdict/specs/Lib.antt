-- The definitions that the contracts of `frame_verdict` cite, and their laws.
pub mod Verdict
pub mod Inside
pub mod Bright
pub mod Laws
pub mod Apart
