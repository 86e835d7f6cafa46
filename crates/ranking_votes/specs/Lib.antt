-- The definitions that the contracts cite, and their laws.
pub mod Votes
pub mod Laws
pub mod Progress
pub mod ProgressLaws
pub mod Near
pub mod NearLaws
