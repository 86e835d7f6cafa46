-- The definitions that the contracts of `frame_reason` cite, and their laws.
pub mod Side
pub mod Reason
pub mod Laws
